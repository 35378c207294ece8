pub mod LegalReads
pub use Rattle.shard_tables.proofs.master_tables_lemmas
