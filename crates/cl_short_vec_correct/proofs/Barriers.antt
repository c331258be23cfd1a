-- An item that stands at a barrier where a statement stands does not go along the steps of the statement, whatever they
-- are.
use Rattle.std.proofs.Common.{◌≡◌, ℕ, suc, Bool, true, false, List, [], ◌∷◌, ◌++◌, length, refl, sym, ap, ◌∙◌, subst}
use Rattle.std.proofs.Common.{arith}
use Rattle.std.proofs.lemmas.Bool.{false≢true}
use Rattle.std.proofs.lemmas.List.{length-append}
use Rattle.work_items.specs.Items.{Next, Waits, Goes}
use Rattle.work_items.specs.Histories.{Deed, Read, Wrote, nothing, going, doing, DoesOnce}
use Rattle.cl_model.specs.Tree.{Program, Barrier}
use Rattle.cl_model.specs.Sizes.{Launch}
use Rattle.cl_model.specs.Task.{Point, Task, Run, Evaluate, Item}
use Rattle.cl_model.specs.Steps.{item_next, first_next, with_tasks}
use Rattle.cl_model.specs.Meaning.{lengths_of, MayBeTold}
use Rattle.cl_meaning.specs.Environment.{Env}
use Rattle.cl_short_vec.specs.Order.{Step}
use Rattle.cl_short_vec_correct.specs.Values.{Leaves, Worth}
use Rattle.cl_short_vec_correct.specs.Doing.{Got, Along, between, at_load, at_store, behind, in_offset, offset}
use Rattle.cl_short_vec_correct.specs.Doing.{in_number, number, copy, load, store, set, Helps}
use Rattle.cl_short_vec_correct.specs.Law.{BarriersRefused}
use Rattle.cl_short_vec_correct.proofs.Evaluated.{D}

abbrev is_waiting : Next Item → Bool
is_waiting (Waits site after) = true
is_waiting x = false

abbrev is_evaluate : List Task → Bool
is_evaluate (Evaluate at e ∷ ts) = true
is_evaluate ts = false

abbrev has_deed : List Deed → Bool
has_deed [] = false
has_deed (d ∷ ds) = true

longer : (t : Task) (ts us : List Task) → t ∷ (ts ++ us) ≡ us → ⊥
longer t ts us e =
    let l : suc (length (ts ++ us)) ≡ length us = ap length e in
    let m = length-append ts us in
    omega arith

module _ (program : Program) (launch : Launch) (buffers : List (List ℕ)) (env later : Env) (helps : ℕ → Type 0)
    (result : Leaves → Worth) (front rest : List Task) (at : Point) (site : ℕ) (i : Item)
    (stands : i.tasks ≡ Run at (Barrier site) ∷ (front ++ rest)) where
  abbrev DD : Item → List Deed → Item → Type 0
  DD = D program launch buffers

  abbrev Once : Next Item → Deed → Item → Type 0
  Once = DoesOnce (lengths_of program launch buffers) (MayBeTold program launch buffers)

  waits : item_next program launch i ≡ Waits site (with_tasks i (front ++ rest))
  waits = ap (first_next program launch i) stands

  waiting : is_waiting (item_next program launch i) ≡ true
  waiting = ap is_waiting waits

  -- without a deed it stays there
  stays : (to : Item) (deeds : List Deed) → has_deed deeds ≡ false → DD i deeds to → to ≡ i
  stays to deeds n nothing = refl
  stays to deeds n (going {mid = mid} e d) = absurd (false≢true (sym (ap is_waiting e) ∙ waiting))
  stays to deeds n (doing {mid = mid} {deed = deed} e d) = absurd (false≢true (sym n))

  comes : (from to : Item) → from ≡ i → DD from [] to → to ≡ i
  comes from to q d = stays to [] refl (subst (λ a. DD a [] to) q d)

  no_step : (a : Item) (next : Next Item) → a ≡ i → item_next program launch a ≡ next →
      is_waiting next ≡ false → ⊥
  no_step a next q e n =
      false≢true (sym n ∙ sym (ap is_waiting e) ∙ ap is_waiting (ap (item_next program launch) q) ∙ waiting)

  no_evaluation : (a : Item) → a ≡ i → is_evaluate a.tasks ≡ true → ⊥
  no_evaluation a q e = false≢true (sym (ap is_evaluate (ap (λ (x : Item). x.tasks) q ∙ stands)) ∙ e)

  no_read : (a to : Item) (site' : ℕ) (access : _) (bytes : List ℕ) → a ≡ i →
      Once (item_next program launch a) (Read site' access bytes) to → ⊥
  no_read a to site' access bytes q o =
      subst (λ n. Once n (Read site' access bytes) to) (ap (item_next program launch) q ∙ waits) o

  no_write : (a to : Item) (site' object : ℕ) (index : _) (bytes : List ℕ) → a ≡ i →
      Once (item_next program launch a) (Wrote site' object index bytes) to → ⊥
  no_write a to site' object index bytes q o =
      subst (λ n. Once n (Wrote site' object index bytes) to) (ap (item_next program launch) q ∙ waits) o

  refused : {steps : List Step} {got : Got} {from to : Item} {deeds : List Deed} →
      Along program launch buffers env later helps result rest steps got from deeds to → from ≡ i → ⊥
  refused (between {from = from} {to = to} d w g) q =
      no_step to (Goes g.0) (comes from to q d.does) g.1 refl
  refused (at_load {from = from} {to = to} r e s after a d n) q = no_step to _ (comes from to q d.does) n refl
  refused (at_store {from = from} {to = to} r e s after a d n) q = no_step to _ (comes from to q d.does) n refl
  refused (behind {from = from} {mid = mid} d e h) q =
      longer (Run at (Barrier site)) front rest
      (sym (ap (λ (x : Item). x.tasks) (comes from mid q d.does) ∙ stands) ∙ e)
  refused (in_offset {from = from} {start = start} r e a d s) q =
      no_evaluation start (comes from start q d.does) (ap is_evaluate s.begins)
  refused (offset {from = from} {start = start} r e v a d s al) q =
      no_evaluation start (comes from start q d.does) (ap is_evaluate s.begins)
  refused (in_number {from = from} {start = start} e a d s) q =
      no_evaluation start (comes from start q d.does) (ap is_evaluate s.begins)
  refused (number {from = from} {start = start} e v a d s k al) q =
      no_evaluation start (comes from start q d.does) (ap is_evaluate s.begins)
  refused (copy {from = from} {mid = mid} y a d k al) q = refused al (comes from mid q d.does)
  refused (load {from = from} {start = start} {mid = mid} r e s bytes a d once al) q =
      no_read start mid s _ bytes (comes from start q d.does) once
  refused (store {from = from} {start = start} {mid = mid} r e s a d once al) q =
      no_write start mid s _ _ _ (comes from start q d.does) once
  refused (set {from = from} {mid = mid} of y a d al) q = refused al (comes from mid q d.does)

pub barriers_refused : BarriersRefused
barriers_refused program launch buffers env later all steps result front rest got at site from to deeds stands a =
    refused program launch buffers env later (Helps env all) result front rest at site from stands a refl
