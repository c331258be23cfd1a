-- Covering of items that stand in their texts goes back along the steps of both; and so the heads of loops are
-- followed for no move, where they are covered.
use Rattle.std.proofs.Common.{◌≡◌, ℕ, suc, pos, List, ◌∷◌, refl, sym, subst, arith}
use Rattle.work_items.specs.Coming.{MayLead}
use Rattle.cl_model.specs.Fitting.{FitsProgram}
use Rattle.cl_model.specs.Task.{Item as ProgramItem, Point as ProgramPoint}
use Rattle.kir.specs.Places.{AnswerAt, iteration}
use Rattle.kir.specs.Steps.{shell_of, Item}
use Rattle.kir.specs.Meaning.{GoesOn}
use Rattle.kir.specs.Lowering.{Named, HasGlobalSizes}
use Rattle.kir_moves.specs.Leads.{past_loop, to_body}
use Rattle.kir_lower.specs.Code.{Calls}
use Rattle.kir_lower.specs.Whole.{lowered_of}
use Rattle.kir_lower_shape.specs.CodeMarks.{CallMarks, kernel_marks}
use Rattle.kir_lower_shape.proofs.Follow.{spent}
use Rattle.kir_lower_simulation.specs.Reaching.{Reaches, here, goes, turns, CoversFewer}
use Rattle.kir_lower_simulation.specs.Setting.{Setting, kernel_item, program_item, Activation}
use Rattle.kir_lower_simulation.specs.Facts.{Rules}
use Rattle.kir_lower_simulation.specs.Ready.{IsUnderWay}
use Rattle.kir_lower_simulation.specs.Bodies.{IsBody}
use Rattle.kir_lower_simulation.proofs.Covered.{may_go, may_begin, may_wait, may_load, may_store, fewer_covers}
use Rattle.kir_lower_simulation.proofs.Covered.{task_covers, line_covers, branch_leads, test_covers, round_covers}
use Rattle.kir_lower_simulation.proofs.Covered.{begins_covers, begins_less_covers, loads_cover, stores_cover}
use Rattle.kir_lower_simulation.proofs.Covered.{waits_cover, ends_cover, select_covers}
use Rattle.kir_lower_simulation.proofs.Followed.{Standing, G_follow, followed, kernel_on, program_on, may_step}
use Rattle.kir_lower_simulation.proofs.Followed.{value_on, standing_at, both_on}
use Rattle.kir_lower_simulation.proofs.Expressions.{AreCalls}
use Rattle.kir_lower_simulation.proofs.Following.{Heads, heads_follow}

-- no barrier is reached with fewer than none
reaches_none : (S : Setting) (point : ProgramPoint) (n : ℕ) (j : ProgramItem) →
    Reaches S.program S.launch S.buffers point n j → n ≡ 0 → ⊥
reaches_none S point n j (here h) e = absurd (omega (arith, e))
reaches_none S point n j (goes {next = next} a p r) e = reaches_none S point n next r e
reaches_none S point n j (turns a p r) e = absurd (omega (arith, e))

module _ (S : Setting) (names : List (List Named)) (lowered : S.kernel ≡ lowered_of S.program names)
    (marked : S.marks ≡ kernel_marks S.program names) (fits : FitsProgram (shell_of S.kernel) S.launch)
    (sizes : HasGlobalSizes S.launch) where
  -- with fewer iterations begun than this the kernel's item covers the program's, where both stand in their texts
  abbrev pub G_stood : ℕ → Item → ProgramItem → Type 0
  G_stood n i j =
      Standing S names lowered marked fits sizes i j → CoversFewer S.program S.marks S.launch S.buffers n j i.tasks

  pub stood : Rules S G_stood
  stood = record {
    fewer = λ n i j g s. fewer_covers S n j i.tasks (g s);
    task = λ n i j j' e none g s. task_covers S n j j' i.tasks e none
        (g (program_on S names lowered marked fits sizes i j j' (may_step S names lowered marked fits sizes j j' e) s));
    line = λ n i i' j facts e g s.
        line_covers S n i i' j e (g (kernel_on S names lowered marked fits sizes i i' j (may_go S i i' e) s));
    test = λ n cells at site test chosen other rest k ts v vs fs next facts t is e g s.
        test_covers S n at site test chosen other rest k ts v vs fs next t e
        (λ z. g z (standing_at S names lowered marked fits sizes cells _ _ ts v z vs fs (next z)
        (branch_leads S z at site test chosen other rest k)
        (may_step S names lowered marked fits sizes _ (next z) (e z)) s));
    round = λ n cells at test answer body begun k ts v vs fs out again facts t is e go ga s.
        round_covers S n at test answer body begun k ts v vs fs out again t e
        (go (standing_at S names lowered marked fits sizes cells (AnswerAt at test answer body begun k) k ts v (pos 0)
        vs fs out past_loop (may_step S names lowered marked fits sizes _ out (e (pos 0))) s))
        (ga (standing_at S names lowered marked fits sizes cells (AnswerAt at test answer body begun k)
        (iteration at test answer body (suc begun) k) ts v (pos 1) vs fs again to_body
        (subst (λ z. MayLead GoesOn z again) (sym (e (pos 1))) refl) s));
    begins = λ n i i' j j' facts e e' none g s. begins_covers S n i i' j j' e e' none
        (g (both_on S names lowered marked fits sizes i i' j j' (may_begin S i i' e)
        (subst (λ z. MayLead GoesOn z j') (sym e') refl) s));
    begins_less = λ n i i' j j' facts e e' none g s. begins_less_covers S n i i' j j' e e' none
        (g (both_on S names lowered marked fits sizes i i' j j' (may_begin S i i' e)
        (subst (λ z. MayLead GoesOn z j') (sym e') refl) s));
    loads = λ n i j site access f h facts e e' g s.
        loads_cover S n i j site access f h e e'
        (λ bytes. g bytes (both_on S names lowered marked fits sizes i (f bytes) j (h bytes)
        (may_load S i site access f bytes e) (subst (λ z. MayLead GoesOn z (h bytes)) (sym e') (
          tt,
          (bytes, refl),
        )) s));
    stores = λ n i i' j j' site object index bytes facts e e' g s.
        stores_cover S n i i' j j' site object index bytes e e'
        (g (both_on S names lowered marked fits sizes i i' j j' (may_store S i i' site object index bytes e)
        (subst (λ z. MayLead GoesOn z j') (sym e') (tt, refl)) s));
    waits = λ n i i' j j' site facts alike e e' g s.
        waits_cover S n i i' j j' site alike e e'
        (g (both_on S names lowered marked fits sizes i i' j j' (may_wait S i i' site e)
        (subst (λ z. MayLead GoesOn z j') (sym e') refl) s));
    ends = λ n i j facts e e' s. ends_cover S n j i.tasks e';
    select = λ n cells k ts v vs fs held next t e types g gv s.
        select_covers S n k ts v vs fs next t e
        (λ z. g z (record {
          types = types z s.types;
          fit = s.fit;
          placed = s.placed;
          in_place = (program_on S names lowered marked fits sizes (kernel_item S cells k)
              (program_item S ts (z ∷ vs) fs) (next z) (may_step S names lowered marked fits sizes _ (next z) (e z))
              (value_on S names lowered marked fits sizes (kernel_item S cells k) ts v z vs fs s)).in_place;
        }));
    typed = λ n i j g s. g s.types s;
    fit = λ n i j g s. g s.fit s;
  }

  -- for none nothing is to be covered
  nothing_covered : (i : Item) (j : ProgramItem) → G_stood 0 i j
  nothing_covered i j s = record { reach = λ point r. absurd (reaches_none S point 0 j r refl) }

  pub stood_heads : (C : Activation) (calls : Calls) (marks : CallMarks) (under : IsUnderWay S C)
      (is_body : IsBody S C) (all : AreCalls S G_stood stood C calls marks) →
      Heads S G_stood stood C calls marks under is_body all 0
  stood_heads C calls marks under is_body all scope inner cell exit way site first test step body m r T tm k at1 start
      ts vs e zero_ d b cells vars inv = nothing_covered _ _

  -- the heads of loops are followed for no move, where they are covered for any number of iterations
  pub followed_heads : (C : Activation) (calls : Calls) (marks : CallMarks) (under : IsUnderWay S C)
      (is_body : IsBody S C) → AreCalls S G_stood stood C calls marks
      → (all : AreCalls S (G_follow S names lowered marked fits sizes) (followed S names lowered marked fits sizes) C
      calls marks)
      → Heads S (G_follow S names lowered marked fits sizes) (followed S names lowered marked fits sizes) C calls
      marks under is_body all 0
  followed_heads C calls marks under is_body covering all scope inner cell exit way site first test step body m r T tm
      k at1 start ts vs e zero_ d b cells vars inv s = record {
        covers = λ n.
            heads_follow S G_stood stood C calls marks under is_body covering
            (stood_heads C calls marks under is_body covering) n scope inner cell exit way site first test step body m
            r T tm k at1 start ts vs e zero_
            (λ at2 new vars2 o v can e2 a2 kept2 s2. (d at2 new vars2 o v can e2 a2 kept2 s2).covers n) b cells vars inv
            s;
        follows = spent;
      }
