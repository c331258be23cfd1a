-- What a launch file's launches come to by their group programs, which is an outcome of each by the model.
use Rattle.std.specs.Prelude.{◌≡◌, ◌+◌, ⊤, ℕ, zero, suc, List, [], ◌∷◌}
use Rattle.wg_num.specs.declared.types.Width.{Width}
use Rattle.wg_num.specs.Operators.{lanes_of}
use Rattle.cl_model.specs.Tree.{Program}
use Rattle.cl_model.specs.Sizes.{Launch}
use Rattle.cl_model.specs.Valid.{IsValid}
use Rattle.cl_model.specs.Meaning.{EndsDone, EndsRange, EndsParted, EndsTurns}
use Rattle.cl_meaning.specs.Typed.{Unit'}
use Rattle.cl_check_sound.specs.Erased.{program_of}
use Rattle.kir.specs.Lowering.{IsLoweringOf}
use Rattle.lane_code.specs.declared.end.RunEnd.{RunEnd}
use Rattle.lane_code.specs.declared.end.RunEnd.TheVariants as run
use Rattle.lane_code.specs.Program.{Plain}
use Rattle.launch_file.specs.Texts.{Part}
use Rattle.wg_top.specs.declared.RunError.{RunError}
use Rattle.wg_top.specs.declared.RunError.TheVariants as error
use Rattle.wg_top.specs.CompiledLaunches.{launch_end, LaunchRan}
use Rattle.wg_compile.specs.Passes.{names_in, kernel_in, plan_in, group_in, IsLike}
use Rattle.lane_code.specs.Run.{program_end}
use Rattle.wg_compile.specs.Correct.{IsCorrectFor, KeepsOnceWhatIsEqual}

-- ---- units

-- the program of a unit is valid, its kernel without calls comes from it, and what is kept once for a group has equal
-- values in all its work-items at the same point, in each launch that fits
pub record IsMade (u : Unit') : Type 0 where
  pub valid : IsValid (program_of u)
  pub lowered : IsLoweringOf (program_of u) (names_in u) (kernel_in u)
  pub once : KeepsOnceWhatIsEqual (program_of u) (kernel_in u) (plan_in u)

-- the same of each unit
abbrev pub AreMade : List Unit' → Type 0
AreMade [] = ⊤
AreMade (u ∷ units) = IsMade u × AreMade units

-- the group program of a unit, at so many lanes: it does what `group_in` does, in the same order, and so ends as that
-- in each launch; and all passes that made it are correct
pub record HasGroupProgram (width : ℕ) (u : Unit') : Type 0 where
  pub group : Plain
  pub like : IsLike (group_in width u) group
  pub same_end : (launch : Launch) (buffers : List (List ℕ)) →
      program_end group launch buffers ≡ program_end (group_in width u) launch buffers
  pub lanes : Width
  pub lanes_are : lanes_of lanes ≡ width
  pub correct : IsCorrectFor u lanes group

-- the same of each launch's unit
abbrev pub HaveGroupPrograms : (width : ℕ) → List Part → List Unit' → Type 0
HaveGroupPrograms width [] [] = ⊤
HaveGroupPrograms width (part ∷ parts) (u ∷ units) = HasGroupProgram width u × HaveGroupPrograms width parts units
HaveGroupPrograms width _ _ = ⊥

-- ---- runs that are outcomes

-- the launches are done, each with its group program, on the buffers that the one before it left; and on these very
-- buffers each may be done so by the model
abbrev pub RanInOutcomes : List Plain → List Program → List Launch → (before after : List (List ℕ)) → Type 0
RanInOutcomes [] [] [] before after = after ≡ before
RanInOutcomes (p ∷ ps) (g ∷ gs) (launch ∷ launches) before after =
    (mid : List (List ℕ)) × LaunchRan p launch before mid × EndsDone g launch before mid ×
    RanInOutcomes ps gs launches mid after
RanInOutcomes _ _ _ before after = ⊥

-- so many launches are done so, and the next one ends with its group program as told, and may end so by the model
abbrev pub EndsInOutcome : (Program → Launch → List (List ℕ) → Type 0) → RunEnd → List Plain → List Program →
    List Launch → (before : List (List ℕ)) → (behind : ℕ) → Type 0
EndsInOutcome Ends end (p ∷ ps) (g ∷ gs) (launch ∷ launches) before zero =
    ((launch_end p launch before).end ≡ end) × Ends g launch before
EndsInOutcome Ends end (p ∷ ps) (g ∷ gs) (launch ∷ launches) before (suc behind) =
    (mid : List (List ℕ)) × LaunchRan p launch before mid × EndsDone g launch before mid ×
    EndsInOutcome Ends end ps gs launches mid behind
EndsInOutcome Ends end _ _ _ before behind = ⊥

-- the launch with that number, counted from 1, ends so at a site, behind those before it
pub record StopsInOutcome (Ends : Program → Launch → List (List ℕ) → Type 0) (end : (site : ℕ) → RunEnd)
    (programs : List Plain) (models : List Program) (launches : List Launch) (before : List (List ℕ))
    (number : ℕ) : Type 0 where
  pub behind : ℕ
  pub site : ℕ
  pub ends : EndsInOutcome Ends (end site) programs models launches before behind
  pub number_is : number ≡ behind + 1

-- what a refusal says of a launch: its group program ends so, and on the same buffers that is an outcome of the launch
abbrev pub StopsAsOutcome : List Plain → List Program → List Launch → (before : List (List ℕ)) → RunError → Type 0
StopsAsOutcome programs models launches before (error.Range number several group item place) =
    StopsInOutcome (λ p launch buffers. EndsRange p launch buffers group item place) (run.Range group item) programs
    models launches before number
StopsAsOutcome programs models launches before (error.Parted number several group item place) =
    StopsInOutcome (λ p launch buffers. EndsParted p launch buffers group item place) (run.Parted group item) programs
    models launches before number
StopsAsOutcome programs models launches before (error.Turns number several) =
    StopsInOutcome EndsTurns (λ site. run.Turns) programs models launches before number
StopsAsOutcome programs models launches before _ = ⊥
