mod ProtectedExamples
mod TaskExamples
mod BodyExamples
mod Growing
