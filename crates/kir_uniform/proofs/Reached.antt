-- Where an item of a kernel stands after a history of its own, it has come there by doing lines as a whole.
use Rattle.std.proofs.Common.{◌≡◌, ℕ, zero, suc, pos, List, [], ◌∷◌, refl, sym, ap, ◌∙◌, subst, inl, inr}
use Rattle.std.specs.Prelude.{slice_get, if◌then◌else◌}
use Rattle.std.specs.Prelude.{Bool as Test, true, false}
use Rattle.wg_num.specs.Bytes.{size_of, value_of_bytes}
use Rattle.work_items.specs.Memory.{Access}
use Rattle.work_items.specs.Items.{Next, Ends, Waits, Goes, Begins, Loads, Stores}
use Rattle.work_items.specs.Histories.{Deed, History, nothing, going, doing, DoesOnce, Passed, Turned, Read, Wrote}
use Rattle.cl_model.specs.Values.{is_zero}
use Rattle.cl_model.specs.Sizes.{Launch, answer_of}
use Rattle.cl_model.specs.Objects.{object_of, kernel_objects}
use Rattle.cl_model.specs.Meaning.{argument_value, MayBeTold}
use Rattle.kir.specs.declared.line.Atom.{Atom}
use Rattle.kir.specs.Tree.{Work, Unary, Binary, Builtin, Convert, Ask, Argument, Copy, Lines, NoLine, SetThen}
use Rattle.kir.specs.Tree.{LoadThen, StoreThen, ClearThen, IfThen, LoopThen, BarrierThen, Kernel}
use Rattle.kir.specs.Places.{Behind, IntoChosen, IntoOther, Place, Tasks, NoTask, LinesAt, AnswerAt, iteration}
use Rattle.kir.specs.Places.{begun_in, lines_at, behind, chosen_of, other_of, test_of, body_of}
use Rattle.kir.specs.Steps.{shell_of, Item, with_tasks, atom_value, work_value, line_next, tasks_next, item_next}
use Rattle.kir.specs.Meaning.{ItemHistory}
use Rattle.kir_uniform.specs.Does.{Cells, Who, put, computed, Answers, Enters, AtAnswer, Does}
use Rattle.kir_uniform.specs.Path.{Loops, FirstDoes, TestIs, InBody, InTest, Comes}

-- the item with this number, as far as its cells can see it
abbrev pub who_of : Kernel → Launch → List (List ℕ) → ℕ → Who
who_of kernel launch buffers number = record {
  asks = answer_of launch number;
  arguments = λ n. argument_value (slice_get launch.args n);
  gives = λ element root index v.
      (bytes : List ℕ) × MayBeTold (shell_of kernel) launch buffers
      (record {
        object = object_of (shell_of kernel) launch number []
            (kernel_objects (shell_of kernel) launch number) root;
        size = size_of element;
        index = index;
      }) bytes
      × (value_of_bytes element bytes ≡ v);
}

-- ---- what a step keeps, where loads give what may be told

abbrev LeadsTold : {S : Type 0} → (Access → List ℕ → Type 0) → (S → Type 0) → Next S → Type 0
LeadsTold told P Ends = Unit {0}
LeadsTold told P (Waits site after) = P after
LeadsTold told P (Goes after) = P after
LeadsTold told P (Begins after) = P after
LeadsTold told P (Loads site access after) = (bytes : List ℕ) → told access bytes → P (after bytes)
LeadsTold told P (Stores site object index bytes after) = P after

does : {S : Type 0} (lengths : ℕ → ℕ) (told : Access → List ℕ → Type 0) (P : S → Type 0) (next : Next S) (deed : Deed)
    (to : S) → DoesOnce lengths told next deed to → LeadsTold told P next → P to
does lengths told P (Waits site after) Passed to d p = subst P d p
does lengths told P (Begins after) Turned to d p = subst P d p
does lengths told P (Loads site access after) (Read at read bytes) to d p = subst P d.4 (p bytes d.3)
does lengths told P (Stores site object index bytes after) (Wrote at object' index' bytes') to d p = subst P d.5 p
does lengths told P Ends deed to d p = absurd d
does lengths told P (Goes after) deed to d p = absurd d
does lengths told P (Waits site after) Turned to d p = absurd d
does lengths told P (Waits site after) (Read at read bytes) to d p = absurd d
does lengths told P (Waits site after) (Wrote at object' index' bytes') to d p = absurd d
does lengths told P (Begins after) Passed to d p = absurd d
does lengths told P (Begins after) (Read at read bytes) to d p = absurd d
does lengths told P (Begins after) (Wrote at object' index' bytes') to d p = absurd d
does lengths told P (Loads site access after) Passed to d p = absurd d
does lengths told P (Loads site access after) Turned to d p = absurd d
does lengths told P (Loads site access after) (Wrote at object' index' bytes') to d p = absurd d
does lengths told P (Stores site object index bytes after) Passed to d p = absurd d
does lengths told P (Stores site object index bytes after) Turned to d p = absurd d
does lengths told P (Stores site object index bytes after) (Read at read bytes') to d p = absurd d

keeps_told : {S : Type 0} {lengths : ℕ → ℕ} {told : Access → List ℕ → Type 0} (next : S → Next S) (P : S → Type 0) →
    ((s : S) → P s → LeadsTold told P (next s)) → {s t : S} {deeds : List Deed} →
    History lengths told next s deeds t → P s → P t
keeps_told {S} {lengths} {told} next P k nothing p = p
keeps_told {S} {lengths} {told} next P k (going {s = s} e h) p =
    keeps_told next P k h (subst (λ n. LeadsTold told P n) e (k s p))
keeps_told {S} {lengths} {told} next P k (doing {s = s} {mid = mid} {deed = deed} d h) p =
    keeps_told next P k h (does lengths told P (next s) deed mid d (k s p))

-- ---- an item on its way

module _ (kernel : Kernel) (launch : Launch) (buffers : List (List ℕ)) (number : ℕ) where
  abbrev me : Who
  me = who_of kernel launch buffers number

  abbrev start : Cells
  start = λ c. pos 0

  -- it has come to what it has left to do, and whatever the lines that are left of a list do as a whole, it then has
  -- come behind them
  abbrev pub OnWay : Tasks → Cells → Type 0
  OnWay NoTask f = Unit {0}
  OnWay (LinesAt at lines rest) f = (lines_at kernel.body at ≡ lines) ×
      Comes (who_of kernel launch buffers number) kernel.body (λ c. pos 0) at (begun_in rest) f ×
      ((g : Cells) → Does (who_of kernel launch buffers number) lines f g → OnWay rest g)
  OnWay (AnswerAt at test answer body n rest) f =
      (site : ℕ) × (first : Test) × (tail : Lines) × (f0 : Cells) ×
      (lines_at kernel.body at ≡ LoopThen site first test answer body tail) ×
      Comes (who_of kernel launch buffers number) kernel.body (λ c. pos 0) at (begun_in rest) f0
      × AtAnswer first (Does (who_of kernel launch buffers number) test)
      (Does (who_of kernel launch buffers number) body) answer n f0 f ×
      ((g : Cells) → Loops (who_of kernel launch buffers number) first test answer body f0 g → OnWay rest g)

  -- what a line computes
  computed_same : (i : Item) (w : Work) → i.number ≡ number →
      work_value launch i w ≡ computed (who_of kernel launch buffers number) i.cells w
  computed_same i (Unary op of a) e = refl
  computed_same i (Binary op of a b) e = refl
  computed_same i (Builtin f of args) e = refl
  computed_same i (Convert to a) e = refl
  computed_same i (Ask what dim) e = ap (λ n. answer_of launch n what (atom_value i.cells dim)) e
  computed_same i (Argument n) e = refl
  computed_same i (Copy a) e = refl

  enters : (first : Test) (T B : Cells → Cells → Type 0) (answer : Atom) (n : ℕ) (f g : Cells) →
      AtAnswer first T B answer n f g → Answers g answer false → Enters first n (AtAnswer first T B answer n) answer f g
  enters true T B answer n f g h z = (h, z)
  enters false T B answer zero f g h z = absurd h
  enters false T B answer (suc n) f g h z = (h, z)

  -- once it has begun one more iteration
  begun_so : (site : ℕ) (first : Test) (test : Lines) (answer : Atom) (body tail : Lines) (at : Place) (rest : Tasks)
      (n : ℕ) (f0 f : Cells) → lines_at kernel.body at ≡ LoopThen site first test answer body tail →
      Comes (who_of kernel launch buffers number) kernel.body (λ c. pos 0) at (begun_in rest) f0
      → Enters first n (AtAnswer first (Does (who_of kernel launch buffers number) test)
      (Does (who_of kernel launch buffers number) body) answer n) answer f0 f →
      ((g : Cells) → Loops (who_of kernel launch buffers number) first test answer body f0 g → OnWay rest g)
      → OnWay (iteration at test answer body (suc n) rest) f
  begun_so site true test answer body tail at rest n f0 f e p x c = (
    ap body_of e,
    (f0, p, subst (λ (l : Lines). InBody (who_of kernel launch buffers number) l (suc n) f0 f) (sym e) x),
    λ b db. (
      ap test_of e,
      (
        f0,
        p,
        subst (λ (l : Lines). InTest (who_of kernel launch buffers number) l (suc n) f0 b) (sym e) (f, x, db),
      ),
      λ m dm. (site, true, tail, f0, e, p, (f, x, (b, db, dm)), c),
    ),
  )
  begun_so site false test answer body tail at rest n f0 f e p x c = (
    ap body_of e,
    (f0, p, subst (λ (l : Lines). InBody (who_of kernel launch buffers number) l (suc n) f0 f) (sym e) x),
    λ b db. (
      ap test_of e,
      (
        f0,
        p,
        subst (λ (l : Lines). InTest (who_of kernel launch buffers number) l (suc n) f0 b) (sym e) (f, x, db),
      ),
      λ m dm. (site, false, tail, f0, e, p, (f, x, (b, db, dm)), c),
    ),
  )

  record Going (i : Item) : Type 0 where
    own : i.number ≡ number
    way : OnWay i.tasks i.cells

  abbrev Told : Access → List ℕ → Type 0
  Told = MayBeTold (shell_of kernel) launch buffers

  -- behind the first line, which is done
  past_line : (at : Place) (lines rest : Lines) (tasks : Tasks) (f g : Cells) → lines_at kernel.body at ≡ lines →
      behind lines ≡ rest → Comes (who_of kernel launch buffers number) kernel.body (λ c. pos 0) at (begun_in tasks)
      f → FirstDoes (who_of kernel launch buffers number) lines f g
      → ((h : Cells) → Does (who_of kernel launch buffers number) rest g h → OnWay tasks h) →
      OnWay (LinesAt (Behind ∷ at) rest tasks) g
  past_line at lines rest tasks f g e b p d c = (
    ap behind e ∙ b,
    (
      f,
      p,
      subst (λ (l : Lines). FirstDoes (who_of kernel launch buffers number) l f g) (sym e)
          d,
    ),
    c,
  )

  branch_step : (i : Item) (at : Place) (site : ℕ) (test : Atom) (chosen other rest : Lines) (tasks : Tasks)
      (own : i.number ≡ number) → OnWay (LinesAt at (IfThen site test chosen other rest) tasks) i.cells → (b : Test) →
      is_zero (atom_value i.cells test) ≡ b
      → Going (with_tasks i (if b then LinesAt (IntoOther ∷ at) other (LinesAt (Behind ∷ at) rest tasks) else LinesAt
      (IntoChosen ∷ at) chosen (LinesAt (Behind ∷ at) rest tasks)))
  branch_step i at site test chosen other rest tasks own w true z = record {
    own = own;
    way = (
      ap other_of w.0,
      (w.1, subst (λ (l : Lines). TestIs l true i.cells) (sym w.0) z),
      λ m d. past_line at (IfThen site test chosen other rest) rest tasks i.cells m w.0 refl w.1 (inr (z, d))
          (λ h k. w.2 h (m, inr (z, d), k)),
    );
  }
  branch_step i at site test chosen other rest tasks own w false z = record {
    own = own;
    way = (
      ap chosen_of w.0,
      (w.1, subst (λ (l : Lines). TestIs l false i.cells) (sym w.0) z),
      λ m d. past_line at (IfThen site test chosen other rest) rest tasks i.cells m w.0 refl w.1 (inl (z, d))
          (λ h k. w.2 h (m, inl (z, d), k)),
    );
  }

  line_step : (i : Item) (at : Place) (lines : Lines) (tasks : Tasks) → i.number ≡ number →
      OnWay (LinesAt at lines tasks) i.cells → LeadsTold Told Going (line_next kernel launch i at lines tasks)
  line_step i at NoLine tasks own w = record { own = own; way = w.2 i.cells refl }
  line_step i at (SetThen to work rest) tasks own w =
      let v = computed_same i work own in
      record {
        own = own;
        way = subst (λ x. OnWay (LinesAt (Behind ∷ at) rest tasks) (put i.cells to x)) (sym v)
            (past_line at (SetThen to work rest) rest tasks i.cells
            (put i.cells to (computed (who_of kernel launch buffers number) i.cells work)) w.0 refl w.1 refl
            (λ h d. w.2 h d));
      }
  line_step i at (LoadThen site to element root index rest) tasks own w = λ bytes told.
      let given : (b : List ℕ) × MayBeTold (shell_of kernel) launch buffers
      (record {
        object = object_of (shell_of kernel) launch number []
            (kernel_objects (shell_of kernel) launch number) root;
        size = size_of element;
        index = atom_value i.cells index;
      }) b × (value_of_bytes element b ≡ value_of_bytes element bytes) = (
        bytes,
        subst (λ n. MayBeTold (shell_of kernel) launch buffers
            (record {
              object = object_of (shell_of kernel) launch n [] (kernel_objects (shell_of kernel) launch n)
                  root;
              size = size_of element;
              index = atom_value i.cells index;
            }) bytes) own told,
        refl,
      ) in
      record {
        own = own;
        way = past_line at (LoadThen site to element root index rest) rest tasks i.cells
            (put i.cells to (value_of_bytes element bytes)) w.0 refl w.1 (
              value_of_bytes element bytes,
              given,
              refl,
            ) (λ h d. w.2 h (value_of_bytes element bytes, given, d));
      }
  line_step i at (StoreThen site element root index from rest) tasks own w =
      record {
        own = own;
        way = past_line at (StoreThen site element root index from rest) rest tasks i.cells i.cells
            w.0 refl w.1 refl (λ h d. w.2 h d);
      }
  line_step i at (ClearThen array rest) tasks own w =
      record {
        own = own;
        way = past_line at (ClearThen array rest) rest tasks i.cells i.cells w.0 refl w.1 refl
            (λ h d. w.2 h d);
      }
  line_step i at (IfThen site test chosen other rest) tasks own w =
      branch_step i at site test chosen other rest tasks own w (is_zero (atom_value i.cells test)) refl
  line_step i at (LoopThen site true test answer body rest) tasks own w = record {
    own = own;
    way = (
      ap test_of w.0,
      (
        i.cells,
        w.1,
        subst (λ (l : Lines). InTest (who_of kernel launch buffers number) l zero i.cells i.cells)
            (sym w.0) refl,
      ),
      λ m d. (
        site,
        true,
        rest,
        i.cells,
        w.0,
        w.1,
        d,
        λ g x. past_line at (LoopThen site true test answer body rest) rest tasks i.cells g w.0 refl w.1 x
            (λ h k. w.2 h (g, x, k)),
      ),
    );
  }
  line_step i at (LoopThen site false test answer body rest) tasks own w = record {
    own = own;
    way = begun_so site false test answer body rest at (LinesAt (Behind ∷ at) rest tasks) 0 i.cells i.cells w.0 w.1
        refl (λ g x. past_line at (LoopThen site false test answer body rest) rest tasks i.cells g w.0 refl w.1 x
        (λ h k. w.2 h (g, x, k)));
  }
  line_step i at (BarrierThen site rest) tasks own w =
      record {
        own = own;
        way = past_line at (BarrierThen site rest) rest tasks i.cells i.cells w.0 refl w.1 refl
            (λ h d. w.2 h d);
      }

  answer_step : (i : Item) (at : Place) (test : Lines) (answer : Atom) (body : Lines) (n : ℕ) (rest : Tasks) →
      i.number ≡ number → OnWay (AnswerAt at test answer body n rest) i.cells → (b : Test) →
      is_zero (atom_value i.cells answer) ≡ b
      → LeadsTold Told Going (if b then Goes (with_tasks i rest) else Begins
      (with_tasks i (iteration at test answer body (suc n) rest)))
  answer_step i at test answer body n rest own w true z = record { own = own; way = w.7 i.cells (n, w.6, z) }
  answer_step i at test answer body n rest own w false z = record {
    own = own;
    way = begun_so w.0 w.1 test answer body w.2 at rest n w.3 i.cells w.4 w.5
        (enters w.1 (Does (who_of kernel launch buffers number) test)
        (Does (who_of kernel launch buffers number) body) answer n w.3 i.cells w.6 z) w.7;
  }

  item_step : (i : Item) (tasks : Tasks) → i.number ≡ number → OnWay tasks i.cells →
      LeadsTold Told Going (tasks_next kernel launch i tasks)
  item_step i NoTask own w = tt
  item_step i (LinesAt at lines rest) own w = line_step i at lines rest own w
  item_step i (AnswerAt at test answer body n rest) own w =
      answer_step i at test answer body n rest own w (is_zero (atom_value i.cells answer)) refl

  -- after each history the item is on its way
  pub on_way : (deeds : List Deed) (i : Item) → ItemHistory kernel launch buffers number deeds i → OnWay i.tasks i.cells
  on_way deeds i h = (keeps_told (item_next kernel launch) Going (λ s g. item_step s s.tasks g.own g.way) h
      (record { own = refl; way = (refl, refl, λ g d. tt) })).way
