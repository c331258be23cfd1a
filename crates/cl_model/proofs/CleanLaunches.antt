-- What holds of every clean launch of a valid program.
use Rattle.std.proofs.Common.{◌≡◌, ℕ, zero, suc, ◌+◌, ◌≤◌, List, [], ◌∷◌, length, Option, Some, None, slice_get}
use Rattle.std.proofs.Common.{unwrap_or, refl, sym, ap, subst, inl, inr, arith}
use Rattle.std.proofs.lemmas.Bool.{cases_lt}
use Rattle.std.proofs.lemmas.Option.{slice_get_past, none-some, same_Some}
use Rattle.std.proofs.Math.Decide.{ℕ_discrete}
use Rattle.work_items.specs.Clean.{AllKeep}
use Rattle.work_items.specs.Law.{Agrees}
use Rattle.work_items.proofs.Ends.{AreDecided}
use Rattle.work_items.proofs.Outcomes.{clean_agrees}
use Rattle.work_items.proofs.Comes.{comes_on}
use Rattle.cl_model.specs.Lists.{Each}
use Rattle.cl_model.specs.Tree.{Function, Program}
use Rattle.cl_model.specs.Sizes.{Launch, item_count}
use Rattle.cl_model.specs.Calls.{CallSite, calls_of_all, function_at, no_function}
use Rattle.cl_model.specs.Task.{Leg, Leg-discrete, Point, Item}
use Rattle.cl_model.specs.Valid.{CallsEnd, IsValid}
use Rattle.cl_model.specs.Meaning.{start_items, start_world, machine_of, IsWithin, MayAnswer, ItemCanCome}
use Rattle.cl_model.specs.Meaning.{IsCleanLaunch}
use Rattle.cl_model.proofs.Weights.{statements_weight}
use Rattle.cl_model.proofs.Fitted.{AllLoopsFit, all_loops_weight, all_loops_fit, TasksFit}
use Rattle.cl_model.proofs.CallWeights.{call_weight, call_weighs}
use Rattle.cl_model.proofs.Falling.{keeps, measure, item_lowers}

-- points can be told apart
same_leg : AreDecided Leg
same_leg a b = elim (Leg-discrete ℕ_discrete a b) [ yes e ↦ inl e | no n ↦ inr n ]

same_way : AreDecided Point
same_way [] [] = inl refl
same_way [] (y ∷ ys) = inr (λ e. cc e)
same_way (x ∷ xs) [] = inr (λ e. cc e)
same_way (x ∷ xs) (y ∷ ys) = elim (same_leg x y) [
  | inr ne ↦ inr (λ e. let f : x ≡ y = cc e in ne f)
  | inl e ↦ elim (same_way xs ys) [
    | inr ne ↦ inr (λ e. let f : xs ≡ ys = cc e in ne f)
    | inl f ↦ inl (λ k. e k ∷ f k)
  ]
]

same_point : AreDecided (Option Point)
same_point None None = inl refl
same_point None (Some y) = inr (λ e. cc e)
same_point (Some x) None = inr (λ e. cc e)
same_point (Some x) (Some y) =
    elim (same_way x y) [ inl e ↦ inl (ap Some e) | inr ne ↦ inr (λ e. ne (same_Some x y e)) ]

-- what the loops of all functions weigh together
functions_weight : (ℕ → ℕ) → List Function → ℕ
functions_weight w [] = 0
functions_weight w (f ∷ fs) = all_loops_weight w f.body + functions_weight w fs

function_within : (w : ℕ → ℕ) (fs : List Function) (n : ℕ) →
    all_loops_weight w (unwrap_or (slice_get fs n) no_function).body ≤ functions_weight w fs
unfolding functions_weight
function_within w [] n = omega arith
function_within w (f ∷ fs) zero = omega arith
function_within w (f ∷ fs) (suc n) = let h = function_within w fs n in omega arith

-- calls of a function end, one that is not there included
calls_end : (program : Program) (depth n : ℕ) → 1 ≤ depth → slice_get program.functions n ≡ None →
    CallsEnd program depth n
calls_end program zero n h e = absurd (omega arith)
calls_end program (suc depth) n h e =
    subst (λ (o : Option Function). Each (λ (c : CallSite). CallsEnd program depth c.function)
    (calls_of_all (unwrap_or o no_function).body)) (sym e) tt

module _ (program : Program) (launch : Launch) (buffers : List (List ℕ)) (valid : IsValid program) where
  abbrev depth : ℕ
  depth = length program.functions

  abbrev w : ℕ → ℕ
  w = call_weight program depth

  abbrev r : ℕ
  r = functions_weight w program.functions

  all_calls_end : (n : ℕ) → CallsEnd program depth n
  all_calls_end n = elim (cases_lt n depth) [
    | inl within ↦ valid.calls n within
    | inr past ↦ let k =
        valid.kernel in calls_end program depth n (omega arith) (slice_get_past program.functions n past)
  ]

  heavy : (f : ℕ) → w f ≡ suc (suc (statements_weight w 0 (function_at program f).body))
  heavy f = call_weighs program depth f (all_calls_end f)

  fits : (f : ℕ) → AllLoopsFit w r (function_at program f).body
  fits f = all_loops_fit w r (function_at program f).body (function_within w program.functions f)

  start_fits : (first count : ℕ) →
      AllKeep (keeps program launch w r heavy fits) (start_items program launch first count)
  start_fits first zero item state e = absurd (none-some state e)
  start_fits first (suc count) zero state e =
      subst (λ (i : Item). TasksFit w r i.tasks) (same_Some _ _ e) (fits program.kernel, tt)
  start_fits first (suc count) (suc item) state e = start_fits (suc first) count item state e

  -- the theorem, for the program, the launch and the buffers
  pub all_agree : IsCleanLaunch program launch buffers →
      Agrees (machine_of program launch) (ItemCanCome program launch buffers) (start_world program launch buffers)
  all_agree clean =
      clean_agrees (machine_of program launch) (IsWithin program launch buffers) (ItemCanCome program launch buffers)
      (comes_on (machine_of program launch) (IsWithin program launch buffers) (MayAnswer program launch))
      same_point (keeps program launch w r heavy fits) (measure program launch w r heavy fits) r
      (item_lowers program launch w r heavy fits)
      (start_world program launch buffers) launch.turns (start_fits 0 (item_count launch)) (λ access h. h) clean
