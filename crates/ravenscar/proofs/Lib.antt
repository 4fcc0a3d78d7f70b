mod HandlerExamples
mod ProgramExamples
mod Ordered
mod Counting
mod Listed
mod Acceptance
