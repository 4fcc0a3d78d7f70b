pub mod continuations
pub mod counterparts
pub mod explanations
pub mod repairs
pub mod hints
