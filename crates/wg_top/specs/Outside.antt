-- What a call of the program leaves outside: the store, the two streams, and what the words ask for.
use Rattle.std.specs.Prelude.{◌≡◌, ◌⊎◌, ℕ, List, [], Option, codes}
use Rattle.wg_outside.specs.Files.{FileMap}
use Rattle.wg_top.specs.declared.RunError.TheVariants.{Memory}
use Rattle.command_words.specs.Command.{Request, TakesWords, AskFor}
use Rattle.launch_file.specs.Texts.{Text}
use Rattle.cl_meaning.specs.Typed.{Unit'}
use Rattle.wg_top.specs.Causes.{Standing, LeavesClean}
use Rattle.wg_top.specs.Lines.{IsSaid, error_line}

-- a sink at one moment
pub record SinkStanding : Type 0 where
  pub written : Option (List ℕ)
  pub faults : ℕ

-- a sink at one moment, by the members of its trait
abbrev pub sink_standing : {S : Type 0} → (S → Option (List ℕ)) → (S → ℕ) → S → SinkStanding
sink_standing written faults sink = record { written = written sink; faults = faults sink }

-- the command takes the words, and they ask for this
pub record AreWords (words : List (List ℕ)) (request : Request) : Type 0 where
  pub taken : TakesWords words
  pub asks : AskFor words request

-- a line was written to a sink, whole, or in part if a fault of the sink rose
abbrev pub Says : SinkStanding → SinkStanding → List ℕ → Type 0
Says old new line = IsSaid old.written new.written old.faults new.faults line

-- the store and the two sinks at one moment
pub record Outside : Type 0 where
  pub store : Standing
  pub out : SinkStanding
  pub err : SinkStanding

-- the same, by the members of the three traits
abbrev pub outside : {S O E : Type 0} → (S → Option FileMap) → (S → ℕ) → (S → ℕ) → (O → Option (List ℕ)) → (O → ℕ) →
    (E → Option (List ℕ)) → (E → ℕ) → S → O → E → Outside
outside files faults misses out_written out_faults err_written err_faults store out err =
    record {
      store = record { files = files store; faults = faults store; misses = misses store };
      out = record { written = out_written out; faults = out_faults out };
      err = record { written = err_written err; faults = err_faults err };
    }

-- a run of clean launches succeeds and leaves what every interleaving leaves, or memory runs out and no file is changed
abbrev pub EndsClean : Option FileMap → Option FileMap → Text → List Unit' → (status : ℕ) → Type 0
EndsClean old new text units status = ((status ≡ 0) × LeavesClean old new text units) ⊎ ((status ≡ 8) × (new ≡ old))

-- nothing but that line on `err` happens
pub record EndsSaying (old new : Outside) (line : List ℕ) : Type 0 where
  pub store_stays : new.store ≡ old.store
  pub out_stays : new.out ≡ old.out
  pub said : Says old.err new.err line

-- the line for words that ask for nothing
abbrev pub usage_line : List ℕ
usage_line = codes "wgcc: usage\n"

-- words that ask for nothing: they are no command, or memory ran out before they were read
abbrev pub EndsUnasked : Outside → Outside → ℕ → Type 0
EndsUnasked old new status =
    ((status ≡ 2) × EndsSaying old new usage_line) ⊎ ((status ≡ 8) × EndsSaying old new (error_line [] Memory))
