use Rattle.tao_schema.specs.Schema.{types_of}
use Rattle.store_tests.proofs.SoundLemmas.{stays_sound}
use Rattle.store_tests.proofs.opening.write_log.Goals as goal

pub returns-in_err-store : goal.returns-in_err-store
returns-in_err-store c = stays_sound (types_of c.args.schema.now) _ _ c.open_master.ensures.stays c.requires

pub loop-seq-init : goal.loop-seq-init
loop-seq-init c = record {
  master = c.in_ok-store.ensures.master;
  sound = stays_sound (types_of c.args.schema.now) _ _ c.open_master.ensures.stays c.requires;
}
