-- An item that leaves its function where a statement stands, by a `return` that ends it, does not go along the steps of
-- the statement, whatever they are.
use Rattle.std.proofs.Common.{◌≡◌, ℕ, suc, Bool, true, false, List, [], ◌∷◌, length, ◌⊎◌, inl, inr, refl, sym, ap, ◌∙◌}
use Rattle.std.proofs.Common.{subst, arith}
use Rattle.std.specs.Prelude.{None}
use Rattle.std.proofs.lemmas.Bool.{false≢true}
use Rattle.work_items.specs.Items.{Next, Goes, Ends}
use Rattle.work_items.specs.Histories.{Deed, Read, Wrote, nothing, going, doing, DoesOnce}
use Rattle.cl_model.specs.Tree.{Program, Return}
use Rattle.cl_model.specs.Sizes.{Launch}
use Rattle.cl_model.specs.Task.{Point, Task, Run, Evaluate, Item}
use Rattle.cl_model.specs.Steps.{item_next, first_next}
use Rattle.cl_model.specs.Meaning.{lengths_of, MayBeTold}
use Rattle.cl_meaning.specs.Environment.{Env}
use Rattle.cl_short_vec.specs.Order.{Step}
use Rattle.cl_short_vec_correct.specs.Values.{Leaves, Worth}
use Rattle.cl_short_vec_correct.specs.Doing.{Got, Along, between, at_load, at_store, behind, in_offset, offset}
use Rattle.cl_short_vec_correct.specs.Doing.{in_number, number, copy, load, store, set, Helps}
use Rattle.cl_short_vec_correct.specs.Law.{ReturnsRefused}
use Rattle.cl_short_vec_correct.proofs.Evaluated.{D, peel}

abbrev is_goes : Next Item → Bool
is_goes (Goes a) = true
is_goes x = false

abbrev is_ends : Next Item → Bool
is_ends Ends = true
is_ends x = false

abbrev is_evaluate : List Task → Bool
is_evaluate (Evaluate at e ∷ ts) = true
is_evaluate ts = false

abbrev has_task : List Task → Bool
has_task [] = false
has_task (t ∷ ts) = true

longer : (t : Task) (ts : List Task) → t ∷ ts ≡ ts → ⊥
longer t ts e = let l : suc (length ts) ≡ length ts = ap length e in omega arith

module _ (program : Program) (launch : Launch) (buffers : List (List ℕ)) (env later : Env) (helps : ℕ → Type 0)
    (result : Leaves → Worth) (next : Task) (others : List Task) (at : Point) (site : ℕ) (i j : Item)
    (stands : i.tasks ≡ Run at (Return site None) ∷ (next ∷ others)) (leaves : item_next program launch i ≡ Goes j)
    (over : j.tasks ≡ []) where
  abbrev rest : List Task
  rest = next ∷ others

  abbrev DD : Item → List Deed → Item → Type 0
  DD = D program launch buffers

  abbrev Once : Next Item → Deed → Item → Type 0
  Once = DoesOnce (lengths_of program launch buffers) (MayBeTold program launch buffers)

  -- the item is in front of the `return`, or has ended
  abbrev Either : Item → Type 0
  Either a = (a ≡ i) ⊎ (a ≡ j)

  ended : item_next program launch j ≡ Ends
  ended = ap (first_next program launch j) over

  stays_over : (to : Item) (deeds : List Deed) → DD j deeds to → to ≡ j
  stays_over to deeds nothing = refl
  stays_over to deeds (going {mid = mid} e d) =
      absurd (false≢true (ap is_goes (sym ended ∙ e)))
  stays_over to deeds (doing {mid = mid} {deed = deed} e d) = absurd (subst (λ n. Once n deed mid) ended e)

  comes : (from to : Item) → Either from → DD from [] to → Either to
  comes from to (inl q) d = elim (peel program launch buffers i j to [] leaves (subst (λ a. DD a [] to) q d)) [
    | inl (e, z) ↦ inl e
    | inr g ↦ inr (stays_over to [] g)
  ]
  comes from to (inr q) d = inr (stays_over to [] (subst (λ a. DD a [] to) q d))

  -- neither evaluates an expression, and neither makes an access
  no_evaluation : (a : Item) (b : Bool) → Either a → is_evaluate a.tasks ≡ true → ⊥
  no_evaluation a b (inl q) e =
      false≢true (sym (ap is_evaluate (ap (λ (x : Item). x.tasks) q ∙ stands)) ∙ e)
  no_evaluation a b (inr q) e = false≢true (sym (ap is_evaluate (ap (λ (x : Item). x.tasks) q ∙ over)) ∙ e)

  no_read : (a to : Item) (site' : ℕ) (access : _) (bytes : List ℕ) → Either a →
      Once (item_next program launch a) (Read site' access bytes) to → ⊥
  no_read a to site' access bytes (inl q) o =
      subst (λ n. Once n (Read site' access bytes) to) (ap (item_next program launch) q ∙ leaves) o
  no_read a to site' access bytes (inr q) o =
      subst (λ n. Once n (Read site' access bytes) to) (ap (item_next program launch) q ∙ ended) o

  no_write : (a to : Item) (site' object : ℕ) (index : _) (bytes : List ℕ) → Either a →
      Once (item_next program launch a) (Wrote site' object index bytes) to → ⊥
  no_write a to site' object index bytes (inl q) o =
      subst (λ n. Once n (Wrote site' object index bytes) to) (ap (item_next program launch) q ∙ leaves) o
  no_write a to site' object index bytes (inr q) o =
      subst (λ n. Once n (Wrote site' object index bytes) to) (ap (item_next program launch) q ∙ ended) o

  next_over : (a : Item) → a ≡ j → is_ends (item_next program launch a) ≡ true
  next_over a q = ap is_ends (ap (item_next program launch) q ∙ ended)

  no_rest : (a : Item) → Either a → a.tasks ≡ rest → ⊥
  no_rest a (inl q) e =
      longer (Run at (Return site None)) rest (sym (ap (λ (x : Item). x.tasks) q ∙ stands) ∙ e)
  no_rest a (inr q) e = false≢true (ap has_task (sym (ap (λ (x : Item). x.tasks) q ∙ over) ∙ e))

  refused : {steps : List Step} {got : Got} {from to : Item} {deeds : List Deed} →
      Along program launch buffers env later helps result rest steps got from deeds to → Either from → to ≡ j → ⊥
  refused (between d w g) o q =
      false≢true (ap has_task (sym (ap (λ (x : Item). x.tasks) q ∙ over) ∙ w.2))
  refused (at_load {to = to} r e s after a d n) o q = false≢true (sym (ap is_ends n) ∙ next_over to q)
  refused (at_store {to = to} r e s after a d n) o q = false≢true (sym (ap is_ends n) ∙ next_over to q)
  refused (behind {from = from} {mid = mid} d e h) o q = no_rest mid (comes from mid o d.does) e
  refused (in_offset {from = from} {start = start} r e a d s) o q =
      no_evaluation start true (comes from start o d.does) (ap is_evaluate s.begins)
  refused (offset {from = from} {start = start} r e v a d s al) o q =
      no_evaluation start true (comes from start o d.does) (ap is_evaluate s.begins)
  refused (in_number {from = from} {start = start} e a d s) o q =
      no_evaluation start true (comes from start o d.does) (ap is_evaluate s.begins)
  refused (number {from = from} {start = start} e v a d s k al) o q =
      no_evaluation start true (comes from start o d.does) (ap is_evaluate s.begins)
  refused (copy {from = from} {mid = mid} y a d k al) o q = refused al (comes from mid o d.does) q
  refused (load {from = from} {start = start} {mid = mid} r e s bytes a d once al) o q =
      no_read start mid s _ bytes (comes from start o d.does) once
  refused (store {from = from} {start = start} {mid = mid} r e s a d once al) o q =
      no_write start mid s _ _ _ (comes from start o d.does) once
  refused (set {from = from} {mid = mid} of y a d al) o q = refused al (comes from mid o d.does) q

pub returns_refused : ReturnsRefused
returns_refused program launch buffers env later all steps result next others got at site from to deeds stands leaves
    over a = refused program launch buffers env later (Helps env all) result next others at site from to stands leaves
    over a (inl refl) refl
