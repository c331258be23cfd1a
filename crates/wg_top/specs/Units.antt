-- The typed units of a launch file's launches.
use Rattle.std.specs.Prelude.{◌⊎◌, ⊤, ℕ, List, [], ◌∷◌, Option, None, Some}
use Rattle.wg_num.specs.declared.types.Place.{Place}
use Rattle.cl_prep.specs.declared.prep.Define.{Define}
use Rattle.cl_meaning.specs.Typed.{Unit'}
use Rattle.launch_file.specs.declared.text.BufferText.{BufferText}
use Rattle.launch_file.specs.declared.refusal.Refusal.{Refusal}
use Rattle.launch_file.specs.Binding.{Needs, launch_refusal}
use Rattle.launch_file.specs.Texts.{Text, Part}
use Rattle.launch_file_bind.specs.Needed.{needs_of_kernel}
use Rattle.cl_front.specs.declared.condition.Condition.{Condition}
use Rattle.cl_front.specs.Typed.{HasTypedUnit, IsFaulty}

-- what the launches of a unit's kernel must meet
abbrev pub needs_in : Unit' → Needs
needs_in u = needs_of_kernel u.functions u.kernel

-- for each launch, the source has that typed unit with the launch's kernel
abbrev pub HaveTypedUnits : List ℕ → List Define → List Part → List Unit' → Type 0
HaveTypedUnits source defines [] [] = ⊤
HaveTypedUnits source defines (part ∷ parts) (u ∷ us) =
    HasTypedUnit source defines part.kernel u × HaveTypedUnits source defines parts us
HaveTypedUnits source defines _ _ = ⊥

-- the kernel of the first launch that is at fault; those of earlier ones have typed units
abbrev pub IsFirstRefused : List ℕ → List Define → List Part → Condition → Place → Type 0
IsFirstRefused source defines [] condition place = ⊥
IsFirstRefused source defines (part ∷ parts) condition place =
    IsFaulty source defines part.kernel condition place ⊎
    ((typed : Unit') × HasTypedUnit source defines part.kernel typed ×
    IsFirstRefused source defines parts condition place)

-- what is there, or what comes later
abbrev pub or_later : Option Refusal → Option Refusal → Option Refusal
or_later None later = later
or_later (Some first) later = Some first

-- the first condition that the launches violate, in order, each for its own kernel
abbrev pub first_refusal : List BufferText → List Part → List Unit' → Option Refusal
first_refusal buffers (part ∷ parts) (u ∷ us) =
    or_later (launch_refusal (needs_in u) buffers part) (first_refusal buffers parts us)
first_refusal buffers _ _ = None

-- the same for a launch file
abbrev pub bind_refusal : Text → List Unit' → Option Refusal
bind_refusal text units = first_refusal text.buffers text.list units
