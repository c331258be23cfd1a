-- What a chain of launches that are outcomes says of the group programs alone, and of the model alone.
use Rattle.std.proofs.Common.{ℕ, zero, suc, List, [], ◌∷◌}
use Rattle.cl_model.specs.Tree.{Program}
use Rattle.cl_model.specs.Sizes.{Launch}
use Rattle.cl_model.specs.Meaning.{EndsRange, EndsParted, EndsTurns}
use Rattle.lane_code.specs.declared.end.RunEnd.{RunEnd}
use Rattle.lane_code.specs.declared.end.RunEnd.TheVariants as run
use Rattle.lane_code.specs.Program.{Plain}
use Rattle.wg_top.specs.declared.RunError.{RunError}
use Rattle.wg_top.specs.declared.RunError.TheVariants as error
use Rattle.wg_top.specs.CompiledLaunches.{LaunchesRan}
use Rattle.wg_top.specs.Outcomes.{AreDone, EndBehind, IsOutcomeOf}
use Rattle.wg_top.specs.CompiledOutcomes.{RanInOutcomes, EndsInOutcome, StopsAsOutcome}

-- the group programs ran
pub launches_ran : (ps : List Plain) (gs : List Program) (launches : List Launch) (before after : List (List ℕ)) →
    RanInOutcomes ps gs launches before after → LaunchesRan ps launches before after
launches_ran [] [] [] before after ran = ran
launches_ran (p ∷ ps) (g ∷ gs) (launch ∷ launches) before after ran =
    (ran.0, ran.1, launches_ran ps gs launches ran.0 after ran.3)
launches_ran [] [] (launch ∷ launches) before after ran = absurd ran
launches_ran [] (g ∷ gs) launches before after ran = absurd ran
launches_ran (p ∷ ps) [] launches before after ran = absurd ran
launches_ran (p ∷ ps) (g ∷ gs) [] before after ran = absurd ran

-- the launches may be done
pub are_done : (ps : List Plain) (gs : List Program) (launches : List Launch) (before after : List (List ℕ)) →
    RanInOutcomes ps gs launches before after → AreDone gs launches before after
are_done [] [] [] before after ran = ran
are_done (p ∷ ps) (g ∷ gs) (launch ∷ launches) before after ran =
    (ran.0, ran.2, are_done ps gs launches ran.0 after ran.3)
are_done [] [] (launch ∷ launches) before after ran = absurd ran
are_done [] (g ∷ gs) launches before after ran = absurd ran
are_done (p ∷ ps) [] launches before after ran = absurd ran
are_done (p ∷ ps) (g ∷ gs) [] before after ran = absurd ran

-- an end behind others may be that of the launch
behind_may_end : (Ends : Program → Launch → List (List ℕ) → Type 0) (end : RunEnd) (ps : List Plain)
    (gs : List Program) (launches : List Launch) (before : List (List ℕ)) (behind : ℕ) →
    EndsInOutcome Ends end ps gs launches before behind → EndBehind Ends gs launches before behind
behind_may_end Ends end (p ∷ ps) (g ∷ gs) (launch ∷ launches) before zero ends = ends.1
behind_may_end Ends end (p ∷ ps) (g ∷ gs) (launch ∷ launches) before (suc behind) ends =
    (ends.0, ends.2, behind_may_end Ends end ps gs launches ends.0 behind ends.3)
behind_may_end Ends end [] gs launches before behind ends = absurd ends
behind_may_end Ends end (p ∷ ps) [] launches before behind ends = absurd ends
behind_may_end Ends end (p ∷ ps) (g ∷ gs) [] before behind ends = absurd ends

pub may_end : (ps : List Plain) (gs : List Program) (launches : List Launch) (before : List (List ℕ)) (e : RunError) →
    StopsAsOutcome ps gs launches before e → IsOutcomeOf gs launches before e
may_end ps gs launches before (error.Range number several group item place) x = record {
  behind = x.behind;
  ends = behind_may_end (λ p launch buffers. EndsRange p launch buffers group item place)
      (run.Range group item x.site) ps gs launches before x.behind x.ends;
  number_is = x.number_is;
}
may_end ps gs launches before (error.Parted number several group item place) x = record {
  behind = x.behind;
  ends = behind_may_end (λ p launch buffers. EndsParted p launch buffers group item place)
      (run.Parted group item x.site) ps gs launches before x.behind x.ends;
  number_is = x.number_is;
}
may_end ps gs launches before (error.Turns number several) x = record {
  behind = x.behind;
  ends = behind_may_end EndsTurns run.Turns ps gs launches before x.behind x.ends;
  number_is = x.number_is;
}
may_end ps gs launches before _ x = absurd x
