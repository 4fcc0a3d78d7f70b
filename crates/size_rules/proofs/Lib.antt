mod Capping
mod Joined
mod Labelling
mod LimitExamples
mod Sample
mod ThingExamples
mod Adding
