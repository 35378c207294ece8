-- The program's command is a simple one, so its matches and its faults are those of its words alone.
use Rattle.std.proofs.Common.{◌≡◌, true, refl}
use Rattle.clap.proofs.OnLiterals.{clap_on_literals}
use Rattle.clap.specs.Words.{is_simple, is_simple_and_free}
use Rattle.command_words.specs.CommandLine.{tao_app}

pub tao_is_simple : is_simple tao_app ≡ true
unfolding clap_on_literals
tao_is_simple = refl

pub tao_is_free : is_simple_and_free tao_app ≡ true
unfolding clap_on_literals
tao_is_free = refl
