-- What a launch file's launches come to by the model: every interleaving of their work-items, one launch behind the
-- other.
use Rattle.std.specs.Prelude.{◌≡◌, ◌+◌, ⊤, ℕ, zero, suc, List, [], ◌∷◌, length, map, take}
use Rattle.work_items.specs.Items.{Move}
use Rattle.work_items.specs.Runs.{world_after, IsMaximal}
use Rattle.cl_model.specs.Tree.{Program}
use Rattle.cl_model.specs.Sizes.{Launch}
use Rattle.cl_model.specs.Meaning.{machine_of, start_world, IsCleanLaunch, EndsDone, EndsRange, EndsParted, EndsTurns}
use Rattle.cl_meaning.specs.Typed.{Unit'}
use Rattle.cl_check_sound.specs.Erased.{program_of}
use Rattle.wg_top.specs.declared.RunError.{RunError}
use Rattle.wg_top.specs.declared.RunError.TheVariants as error

-- the programs of units
abbrev pub models_in : List Unit' → List Program
models_in units = map program_of units

-- ---- every launch

-- launch by launch, the buffers that the one before it left become others so; the last one leaves these
abbrev pub Through : (Program → Launch → (before after : List (List ℕ)) → Type 0) → List Program → List Launch →
    (before after : List (List ℕ)) → Type 0
Through Leaves [] [] before after = after ≡ before
Through Leaves (p ∷ programs) (launch ∷ launches) before after =
    (mid : List (List ℕ)) × Leaves p launch before mid × Through Leaves programs launches mid after
Through Leaves _ _ before after = ⊥

-- each launch may be done: after some run of it on the buffers that the one before it left every work-item has ended
abbrev pub AreDone : List Program → List Launch → (before after : List (List ℕ)) → Type 0
AreDone = Through EndsDone

-- so many launches may be done, and the next one may end so on the buffers that they leave
abbrev pub EndBehind : (Program → Launch → List (List ℕ) → Type 0) → List Program → List Launch →
    (before : List (List ℕ)) → (behind : ℕ) → Type 0
EndBehind Ends (p ∷ programs) (launch ∷ launches) before zero = Ends p launch before
EndBehind Ends (p ∷ programs) (launch ∷ launches) before (suc behind) =
    (mid : List (List ℕ)) × EndsDone p launch before mid × EndBehind Ends programs launches mid behind
EndBehind Ends _ _ before behind = ⊥

-- the launch with that number, counted from 1, may end so behind those before it
pub record MayEnd (Ends : Program → Launch → List (List ℕ) →
    Type 0) (programs : List Program) (launches : List Launch) (before : List (List ℕ)) (number : ℕ) : Type 0 where
  pub behind : ℕ
  pub ends : EndBehind Ends programs launches before behind
  pub number_is : number ≡ behind + 1

-- what a refusal says of a launch is an outcome of that launch
abbrev pub IsOutcomeOf : List Program → List Launch → (before : List (List ℕ)) → RunError → Type 0
IsOutcomeOf programs launches before (error.Range number several group item place) =
    MayEnd (λ p launch buffers. EndsRange p launch buffers group item place) programs launches before number
IsOutcomeOf programs launches before (error.Parted number several group item place) =
    MayEnd (λ p launch buffers. EndsParted p launch buffers group item place) programs launches before number
IsOutcomeOf programs launches before (error.Turns number several) = MayEnd EndsTurns programs launches before number
IsOutcomeOf programs launches before _ = ⊥

-- ---- clean launches

-- each launch is clean on the buffers that those before it leave
abbrev pub AreClean : List Program → List Launch → (before : List (List ℕ)) → Type 0
AreClean [] [] before = ⊤
AreClean (p ∷ programs) (launch ∷ launches) before =
    IsCleanLaunch p launch before × ((mid : List (List ℕ)) → EndsDone p launch before mid →
    AreClean programs launches mid)
AreClean _ _ before = ⊥

-- every interleaving of the launch leaves these buffers: there is one after which every work-item has ended, and each
-- run that no move can follow leaves them
pub record EachLeaves (program : Program) (launch : Launch) (before after : List (List ℕ)) : Type 0 where
  pub done : EndsDone program launch before after
  pub each : (moves : List Move) → IsMaximal (machine_of program launch) (start_world program launch before) moves
      → take (length launch.lengths) (world_after (machine_of program launch) (start_world program launch before)
      moves).memory ≡ after

-- the same of each launch, on the buffers that the one before it leaves
abbrev pub AllLeave : List Program → List Launch → (before after : List (List ℕ)) → Type 0
AllLeave = Through EachLeaves
