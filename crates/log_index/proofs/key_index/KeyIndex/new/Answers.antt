use Rattle.std.proofs.Common.{ap, unwrap_or}
use Rattle.std.specs.BTreeMap.{is_at}
use Rattle.std.specs.Map.{lookup}
use Rattle.tao_base.specs.Keys.{key_cmp}
use Rattle.log_index.specs.KeyState.{no_state}
use Rattle.log_index.proofs.KeyLemmas.{says_nothing}
use Rattle.log_index.proofs.key_index.KeyIndex.new.Goals as goal

pub returns : goal.returns
returns c = says_nothing c.new.result (λ key. ap (λ es. unwrap_or (lookup (is_at (key_cmp key)) es) no_state) c.new.ensures.empty)
