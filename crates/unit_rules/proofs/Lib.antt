mod MainExamples
mod Walks
mod Objects
mod PackageBodyExamples
mod Meanings
mod Parts
mod Sample
