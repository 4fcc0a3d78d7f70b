mod BrokenExamples
mod QueueExamples
mod ScriptExamples
mod SpellingExamples
