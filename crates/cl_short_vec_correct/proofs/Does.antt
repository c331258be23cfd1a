-- Statements that stand for steps do the steps.
use Rattle.std.proofs.Common.{◌≡◌, ℕ, List, [], ◌∷◌, ◌++◌, inl, inr, refl, sym, ap, ◌∙◌, subst}
use Rattle.wg_num.specs.declared.types.IntType.{IntType}
use Rattle.cl_model.specs.Tree.{Statements, Block, empty, also, Program}
use Rattle.cl_model.specs.Sizes.{Launch}
use Rattle.cl_model.specs.Task.{Nth, Task, Run, Item}
use Rattle.cl_model.specs.Steps.{in_order, frame_of, item_next}
use Rattle.cl_model.specs.Calls.{function_at}
use Rattle.cl_model.specs.Valid.{HasVariable}
use Rattle.cl_model.specs.Meaning.{lengths_of, MayBeTold}
use Rattle.cl_model_typed.specs.Expected.{Fits}
use Rattle.cl_model_typed.proofs.Histories.{stays, start_fits}
use Rattle.cl_meaning.specs.Environment.{Env}
use Rattle.cl_short_vec.specs.Order.{Step}
use Rattle.cl_short_vec_correct.specs.Values.{Leaves, Worth}
use Rattle.cl_short_vec_correct.specs.Doing.{nothing_got, Helps, IsDeclaredAs, HasDeclared, DoSteps, Along}
use Rattle.cl_short_vec_correct.specs.Emits.{Emits}
use Rattle.cl_short_vec_correct.specs.Law.{StepsDone}
use Rattle.cl_short_vec_correct.proofs.Evaluated.{D, it, peel, then_further, one_step}
use Rattle.cl_short_vec_correct.proofs.Follows.{KeepsHeld, follows, stop, ahead, computes_same}
use Rattle.cl_short_vec_correct.proofs.Kept.{evaluation}

module _ (program : Program) (env later : Env) where
  held : (launch : Launch) (buffers : List (List ℕ)) (helps : ℕ → Type 0) (result : Leaves → Worth)
      (rest : List Task) → KeepsHeld program launch buffers env later helps result rest
  held launch buffers helps result rest known e s at n tail vs f fs to deeds h d =
      evaluation known f.function program launch (lengths_of program launch buffers)
      (MayBeTold program launch buffers) n fs tail
      at e vs f to deeds s refl h d

  -- Statements of which each stands for a step do these steps, in order, with these results.
  pub does : (steps : List Step) (result : Leaves → Worth) (ss : Statements) → HasDeclared program later →
      Emits env later (Helps env steps) result [] nothing_got steps ss →
      DoSteps program env later steps result ss
  does steps result ss declared lines launch buffers at k rest from to frame frames deeds comes fr ts d =
      let H = Helps env steps in
      let q : from ≡ it from.number (in_order at k ss rest) from.values (frame ∷ frames) =
      ap (λ u. it from.number u from.values from.frames) ts ∙
      ap (λ z. it from.number (in_order at k ss rest) from.values z) fr in
      let fits = stays program launch comes.typed comes.reached (start_fits program launch comes.typed comes.item) in
      let there : later.owner.number ≡ frame.function = sym comes.function ∙ ap (λ fs. (frame_of fs).function) fr in
      let types : (x : ℕ) (of : IntType) → IsDeclaredAs later x of →
      HasVariable (function_at program frame.function) x of =
      λ x of h. subst (λ z. HasVariable (function_at program z) x of) there (declared x of h) in
      subst (λ i. Along program launch buffers env later H result rest steps nothing_got i deeds to) (sym q)
      (follows program launch buffers env later H result rest (held launch buffers H result rest) comes.typed
      frame.function types lines at k from.number from.values frame frames to deeds (subst (Fits program) q fits) refl
      tt
      (subst (λ i. D program launch buffers i deeds to) q d))

  -- The same, where the statements are one block.
  pub does_block : (steps : List Step) (result : Leaves → Worth) (ss : Statements) →
      DoSteps program env later steps result ss → DoSteps program env later steps result (also (Block ss) empty)
  does_block steps result ss d launch buffers at k rest from to frame frames deeds comes fr ts h =
      let H = Helps env steps in
      let at' = at ++ Nth k ∷ [] in
      let i = it from.number (Run at' (Block ss) ∷ rest) from.values (frame ∷ frames) in
      let j = it from.number (in_order at' 0 ss rest) from.values (frame ∷ frames) in
      let q : from ≡ i =
      ap (λ u. it from.number u from.values from.frames) ts ∙
      ap (λ z. it from.number (Run at' (Block ss) ∷ rest) from.values z) fr in
      subst (λ a. Along program launch buffers env later H result rest steps nothing_got a deeds to) (sym q)
      (elim (peel program launch buffers i j to deeds refl (subst (λ a. D program launch buffers a deeds to) q h)) [
        | inl (e, z) ↦ stop program launch buffers env later H result rest steps nothing_got i to deeds
            (ap (λ (a : Item). a.number) e) (ap (λ (a : Item). a.frames) e) z
            (Run at' (Block ss), [], ap (λ (a : Item). a.tasks) e) (j, ap (item_next program launch) e)
            (subst (λ a. D program launch buffers a deeds to) q h)
        | inr g ↦ ahead program launch buffers env later H result rest
            (computes_same H i j refl refl, one_step program launch buffers i j refl)
            (d launch buffers at' 0 rest j to frame frames deeds (record {
              typed = comes.typed;
              item = comes.item;
              before = comes.before ++ [];
              reached = then_further program launch buffers comes.reached
                  (subst (λ a. D program launch buffers a [] j) (sym q) (one_step program launch buffers i j refl));
              function = sym (ap (λ fs. (frame_of fs).function) fr) ∙ comes.function;
            }) refl refl g)
      ])

-- Statements that stand for steps do them, by themselves and as one block.
pub steps_done : StepsDone
steps_done program env later steps result ss declared lines =
    let d = does program env later steps result ss declared lines in (d, does_block program env later steps result ss d)
