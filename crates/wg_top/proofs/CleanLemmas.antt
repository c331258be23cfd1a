-- Clean launches have no other outcome than to be done with what every interleaving leaves.
use Rattle.std.proofs.Common.{ℕ, zero, suc, List, [], ◌∷◌, length, take, ◌∙◌, ap, arith}
use Rattle.work_items.specs.Memory.{Memory}
use Rattle.cl_model.specs.Tree.{Program}
use Rattle.cl_model.specs.Sizes.{Launch}
use Rattle.cl_model.specs.Valid.{IsValid}
use Rattle.cl_model.specs.Meaning.{IsCleanLaunch, EndsDone, EndsRange, EndsParted, EndsTurns}
use Rattle.cl_model.proofs.CleanLaunches.{all_agree}
use Rattle.cl_meaning.specs.Typed.{Unit'}
use Rattle.wg_top.specs.declared.RunError.{RunError}
use Rattle.wg_top.specs.declared.RunError.TheVariants as error
use Rattle.wg_top.specs.CompiledOutcomes.{AreMade}
use Rattle.wg_top.specs.Outcomes.{models_in, AreDone, EndBehind, IsOutcomeOf, AreClean, EachLeaves, AllLeave}

-- each program is valid
abbrev AllValid : List Program → Type 0
AllValid [] = Unit {0}
AllValid (g ∷ gs) = IsValid g × AllValid gs

all_valid : (units : List Unit') → AreMade units → AllValid (models_in units)
all_valid [] made = tt
all_valid (u ∷ units) made = (made.0.valid, all_valid units made.1)

-- ---- one launch

-- where one run of a clean launch has ended, every run that no move can follow leaves the same
each_leaves : (g : Program) (launch : Launch) (before after : List (List ℕ)) → IsValid g →
    IsCleanLaunch g launch before → EndsDone g launch before after → EachLeaves g launch before after
each_leaves g launch before after valid clean done = record {
  done = done;
  each = λ moves maximal. ap (λ (m : Memory). take (length launch.lengths) m)
      ((all_agree g launch before valid clean).each_leaves done.memory done.is_done moves maximal) ∙ done.same_buffers;
}

no_range : (g : Program) (launch : Launch) (before : List (List ℕ)) (group item : ℕ) (place : _) → IsValid g →
    IsCleanLaunch g launch before → EndsRange g launch before group item place → ⊥
no_range g launch before group item place valid clean ends =
    (all_agree g launch before valid clean).no_range _ ends.is_range

no_parted : (g : Program) (launch : Launch) (before : List (List ℕ)) (group item : ℕ) (place : _) → IsValid g →
    IsCleanLaunch g launch before → EndsParted g launch before group item place → ⊥
no_parted g launch before group item place valid clean ends =
    (all_agree g launch before valid clean).no_parted item ends.site ends.is_parted

no_turns : (g : Program) (launch : Launch) (before : List (List ℕ)) → IsValid g → IsCleanLaunch g launch before →
    EndsTurns g launch before → ⊥
no_turns g launch before valid clean ends = omega (arith, clean.few_turns ends.moves ends.run, ends.more)

-- ---- launches one behind the other

clean_done : (gs : List Program) (launches : List Launch) (before after : List (List ℕ)) → AllValid gs →
    AreClean gs launches before → AreDone gs launches before after → AllLeave gs launches before after
clean_done [] [] before after valid clean done = done
clean_done (g ∷ gs) (launch ∷ launches) before after valid clean done = (
  done.0,
  each_leaves g launch before done.0 valid.0 clean.0 done.1,
  clean_done gs launches done.0 after valid.1 (clean.1 done.0 done.1) done.2,
)
clean_done [] (launch ∷ launches) before after valid clean done = absurd done
clean_done (g ∷ gs) [] before after valid clean done = absurd done

never_behind : (Ends : Program → Launch → List (List ℕ) → Type 0) →
    ((g : Program) (launch : Launch) (before : List (List ℕ)) → IsValid g → IsCleanLaunch g launch before →
    Ends g launch before → ⊥)
    → (gs : List Program) (launches : List Launch) (before : List (List ℕ)) (behind : ℕ) → AllValid gs →
    AreClean gs launches before → EndBehind Ends gs launches before behind → ⊥
never_behind Ends never [] [] before behind valid clean ends = ends
never_behind Ends never (g ∷ gs) (launch ∷ launches) before zero valid clean ends =
    never g launch before valid.0 clean.0 ends
never_behind Ends never (g ∷ gs) (launch ∷ launches) before (suc behind) valid clean ends =
    never_behind Ends never gs launches ends.0 behind valid.1 (clean.1 ends.0 ends.1) ends.2
never_behind Ends never [] (launch ∷ launches) before behind valid clean ends = ends
never_behind Ends never (g ∷ gs) [] before behind valid clean ends = ends

-- no refusal is an outcome
no_outcome : (gs : List Program) (launches : List Launch) (before : List (List ℕ)) (e : RunError) → AllValid gs →
    AreClean gs launches before → IsOutcomeOf gs launches before e → ⊥
no_outcome gs launches before (error.Range number several group item place) valid clean ends =
    never_behind (λ g launch buffers. EndsRange g launch buffers group item place) (λ g launch buffers.
    no_range g launch buffers group item place) gs launches before ends.behind valid clean ends.ends
no_outcome gs launches before (error.Parted number several group item place) valid clean ends =
    never_behind (λ g launch buffers. EndsParted g launch buffers group item place) (λ g launch buffers.
    no_parted g launch buffers group item place) gs launches before ends.behind valid clean ends.ends
no_outcome gs launches before (error.Turns number several) valid clean ends =
    never_behind EndsTurns no_turns gs launches before ends.behind valid clean ends.ends
no_outcome gs launches before _ valid clean ends = ends

-- ---- of the units of a call

pub leaves_clean : (units : List Unit') (launches : List Launch) (before after : List (List ℕ)) → AreMade units →
    AreClean (models_in units) launches before → AreDone (models_in units) launches before after →
    AllLeave (models_in units) launches before after
leaves_clean units launches before after made clean done =
    clean_done (models_in units) launches before after (all_valid units made) clean done

pub never_stops : (units : List Unit') (launches : List Launch) (before : List (List ℕ)) (e : RunError) →
    AreMade units → AreClean (models_in units) launches before → IsOutcomeOf (models_in units) launches before e → ⊥
never_stops units launches before e made clean ends =
    no_outcome (models_in units) launches before e (all_valid units made) clean ends
