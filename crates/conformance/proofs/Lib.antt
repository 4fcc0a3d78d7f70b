mod Alike
mod Fronts
mod MatchingExamples
mod Tabled
