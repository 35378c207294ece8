pub mod KeptRules
