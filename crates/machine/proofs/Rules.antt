-- A rule for each call and for settle: by these the proofs go.
pub mod Rules
pub mod RulesMemory
pub mod RulesSettle
pub mod RulesQuiet
