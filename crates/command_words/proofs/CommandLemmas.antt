-- A command by its definition.
use Rattle.std.proofs.Common.{◌≡◌, true, refl, ◌∙◌, ap, ap₂}
use Rattle.clap.specs.Words.{AddsSubcommand, App, is_simple_and_free, with_subcommand}
use Rattle.clap.specs.declared.builder.command.Command.{Command}
use Rattle.clap.proofs.OnLiterals.{clap_on_literals}
use Rattle.command_words.specs.Command.{IsCommandOf, wgcc_app}

-- a command with one more subcommand
pub adds_sub : (old sub new : Command) (a s : App) → IsCommandOf a old → IsCommandOf s sub →
    AddsSubcommand old sub new → IsCommandOf (with_subcommand a s.top) new
adds_sub old sub new a s is_old is_sub adds = record {
  is = adds.shape is_sub.local ∙ ap₂ with_subcommand is_old.is (ap (λ (x : App). x.top) is_sub.is);
  local = adds.globals ∙ rw (is_old.local, is_sub.local) refl;
}

-- the command is one of which `clap` says exactly when it takes words
pub wgcc_app-simple : is_simple_and_free wgcc_app ≡ true
unfolding clap_on_literals
wgcc_app-simple = refl
