-- What the launches of a launch file do to its buffers by their group programs, one after the other.
use Rattle.std.specs.Prelude.{◌≡◌, ◌+◌, ⊤, ℕ, zero, suc, Bool, List, [], ◌∷◌, map, Option, Some, None, slice_get}
use Rattle.std.specs.Prelude.{slice_index_or}
use Rattle.wg_num.specs.declared.types.Place.{Place}
use Rattle.cl_model.specs.Sizes.{Launch}
use Rattle.cl_model.specs.declared.launch.Launch.{Launch as Bindings}
use Rattle.cl_model.specs.View.{launch_of}
use Rattle.launch_file.specs.Texts.{Text}
use Rattle.lane_code.specs.declared.end.RunEnd.{RunEnd}
use Rattle.lane_code.specs.declared.end.RunEnd.TheVariants as run
use Rattle.lane_code.specs.Program.{Plain}
use Rattle.lane_code.specs.Run.{RunEnded, program_end}
use Rattle.lane_code.specs.Fits.{LaunchFits}
use Rattle.wg_top.specs.declared.RunError.{RunError}
use Rattle.wg_top.specs.declared.RunError.TheVariants as error
use Rattle.cl_meaning.specs.Typed.{Unit'}
use Rattle.wg_compile.specs.Passes.{group_in}

-- each launch fits its program, local memory that the kernel declares aside
abbrev pub AllFit : List Plain → List Bindings → Type 0
AllFit [] [] = ⊤
AllFit (p ∷ ps) (launch ∷ launches) = LaunchFits p.params 0 (launch_of launch) × AllFit ps launches
AllFit _ _ = ⊥

-- how the program of a group ends on a launch and these buffers, and what it leaves
unfoldable pub launch_end : Plain → Launch → List (List ℕ) → RunEnded
launch_end program launch buffers = program_end program launch buffers

-- the program is done on the launch and the buffers before, and leaves those after
pub record LaunchRan (program : Plain) (launch : Launch) (before after : List (List ℕ)) : Type 0 where
  pub done : (launch_end program launch before).end ≡ run.Done
  pub leaves : (launch_end program launch before).buffers ≡ after

-- the launches are done, each with its program, on the buffers that the one before it left
abbrev pub LaunchesRan : List Plain → List Launch → (before after : List (List ℕ)) → Type 0
LaunchesRan [] [] before after = after ≡ before
LaunchesRan (p ∷ ps) (launch ∷ launches) before after =
    (mid : List (List ℕ)) × LaunchRan p launch before mid × LaunchesRan ps launches mid after
LaunchesRan _ _ before after = ⊥

-- so many launches are done, and the next one ends so
abbrev pub EndsBehind : List Plain → List Launch → (before : List (List ℕ)) → (behind : ℕ) → RunEnd → Type 0
EndsBehind (p ∷ ps) (launch ∷ launches) before zero end = (launch_end p launch before).end ≡ end
EndsBehind (p ∷ ps) (launch ∷ launches) before (suc behind) end =
    (mid : List (List ℕ)) × LaunchRan p launch before mid × EndsBehind ps launches mid behind end
EndsBehind _ _ before behind end = ⊥

-- the launches before the one with that number, counted from 1, are done, and it ends so
pub record EndsIn (programs : List Plain) (launches : List Launch) (before : List (List ℕ)) (number : ℕ)
    (end : RunEnd) : Type 0 where
  pub behind : ℕ
  pub ends : EndsBehind programs launches before behind end
  pub number_is : number ≡ behind + 1

-- the first place of a source
abbrev pub start_place : Place
start_place = record { line = 1; column = 1 }

-- the place of a site of a program, if there is one
abbrev pub site_place : Option Plain → ℕ → Place
site_place None site = start_place
site_place (Some p) site = slice_index_or p.sites site start_place

-- the same at a site, which has that place in the source
pub record EndsAtSite (programs : List Plain) (launches : List Launch) (before : List (List ℕ)) (number : ℕ)
    (end : (site : ℕ) → RunEnd) (place : Place) : Type 0 where
  pub behind : ℕ
  pub site : ℕ
  pub ends : EndsBehind programs launches before behind (end site)
  pub number_is : number ≡ behind + 1
  pub place_is : place ≡ site_place (slice_get programs behind) site

-- a launch ends as the refusal says, in a file that lists its launches or does not
abbrev pub EndsSo : Bool → List Plain → List Launch → (before : List (List ℕ)) → RunError → Type 0
EndsSo listed programs launches before (error.Range number several group item place) =
    (several ≡ listed) × EndsAtSite programs launches before number (run.Range group item) place
EndsSo listed programs launches before (error.Parted number several group item place) =
    (several ≡ listed) × EndsAtSite programs launches before number (run.Parted group item) place
EndsSo listed programs launches before (error.Turns number several) =
    (several ≡ listed) × EndsIn programs launches before number run.Turns
EndsSo listed programs launches before _ = ⊥

-- the refusal of a run whose launch with that number ends so; none where it is done
abbrev pub refusal_of : RunEnd → (number : ℕ) (several : Bool) → List Place → Option RunError
refusal_of run.Done number several sites = None
refusal_of (run.Range group item site) number several sites =
    Some (error.Range number several group item (slice_index_or sites site start_place))
refusal_of (run.Parted group item site) number several sites =
    Some (error.Parted number several group item (slice_index_or sites site start_place))
refusal_of run.Turns number several sites = Some (error.Turns number several)

-- the programs of the groups of a launch file's launches
abbrev pub programs_in : Text → List Unit' → List Plain
programs_in text units = map (group_in text.lanes) units
