-- A variable of the inlined kernel crosses exactly where the plan marks it in its function.
use Rattle.std.proofs.Common.{◌≡◌, ℕ, zero, suc, ◌≤◌, List, [], ◌∷◌, ◌++◌, length, refl, sym, ◌∙◌, subst, arith, ◌⊎◌}
use Rattle.std.proofs.Common.{inl, inr, ⊎_elim}
use Rattle.std.specs.Prelude.{Bool as Test, true, false}
use Rattle.std.specs.Prelude.{if◌then◌else◌}
use Rattle.std.proofs.lemmas.Bool.{true≢false}
use Rattle.cl_model.specs.Tree.{Program}
use Rattle.cl_model.specs.Calls.{function_at}
use Rattle.cl_model.specs.Lists.{IsOneOf}
use Rattle.cl_model.specs.Valid.{CallsEnd}
use Rattle.kir.specs.Tree.{Variable}
use Rattle.kir.specs.Inlined as kir
use Rattle.kir.specs.Inlined.{Text, variable_of}
use Rattle.kir.specs.Inlined.{function_text, variables_in, crossing_in}
use Rattle.ctx_plan.specs.Outline.{Outline, NoPiece, DeclaresThen, CutThen, CallsThen, BlockThen, function_outline}
use Rattle.ctx_plan.specs.Points.{entry}
use Rattle.ctx_plan.specs.Sharing.{holding_of}
use Rattle.ctx_plan_correct.specs.Crossing.{CrossesIn, DeclaredIn, EachCall}
use Rattle.ctx_plan_correct.proofs.Outlined.{text_of, inlining}
use Rattle.ctx_plan_correct.proofs.Holding.{function_found}
use Rattle.ctx_plan_correct.proofs.Crossing.{function_each}
use Rattle.ctx_plan_correct.proofs.Cuts.{outline_cuts}

-- ---- lists

pub left_one : {A : Type 0} (xs ys : List A) (a : A) → IsOneOf xs a → IsOneOf (xs ++ ys) a
left_one [] ys a h = absurd h
left_one (x ∷ xs) ys a h = ⊎_elim (λ q. inl q) (λ q. inr (left_one xs ys a q)) h

pub right_one : {A : Type 0} (xs ys : List A) (a : A) → IsOneOf ys a → IsOneOf (xs ++ ys) a
right_one [] ys a h = h
right_one (x ∷ xs) ys a h = inr (right_one xs ys a h)

pub either_one : {A : Type 0} (xs ys : List A) (a : A) → IsOneOf (xs ++ ys) a → IsOneOf xs a ⊎ IsOneOf ys a
either_one [] ys a h = inr h
either_one (x ∷ xs) ys a h =
    ⊎_elim (λ q. inl (inl q)) (λ q. ⊎_elim (λ r. inl (inr r)) (λ r. inr r) (either_one xs ys a q)) h

if_first : (b : Test) (v : Variable) (xs : List Variable) → b ≡ true → IsOneOf (if b then v ∷ xs else xs) v
if_first true v xs e = inl refl
if_first false v xs e = absurd (true≢false (sym e))

if_later : (b : Test) (v w : Variable) (xs : List Variable) → IsOneOf xs w → IsOneOf (if b then v ∷ xs else xs) w
if_later true v w xs h = inr h
if_later false v w xs h = h

if_either : (b : Test) (v w : Variable) (xs : List Variable) → IsOneOf (if b then v ∷ xs else xs) w →
    ((v ≡ w) × (b ≡ true)) ⊎ IsOneOf xs w
if_either true v w xs h = ⊎_elim (λ q. inl (q, refl)) (λ q. inr q) h
if_either false v w xs h = inr h

module _ (program : Program) where
  -- the outline of a function
  abbrev outline : ℕ → Outline
  outline f = function_outline (entry (holding_of program.functions)) (function_at program f)

  abbrev Ends : ℕ → ℕ → ℕ → Type 0
  Ends d site g = CallsEnd program d g

  ends : (d f : ℕ) → CallsEnd program (suc d) f → EachCall (Ends d) (outline f)
  ends d f e = function_each (Ends d) (entry (holding_of program.functions)) (function_at program f) e

  -- ---- from the outline to the text

  -- a variable of the function's own that crosses
  own : (d : ℕ) (calls : List ℕ) (f : ℕ) (o : Outline) → d ≤ length program.functions → EachCall (Ends d) o →
      (x : ℕ) → CrossesIn (entry (holding_of program.functions)) o x
      → IsOneOf (crossing_in (text_of (inlining program d calls f) o)) (variable_of (inlining program d calls f) x)
  own d calls f NoPiece le k x c = absurd c
  own d calls f (DeclaresThen y rest) le k x c =
      let here = inlining program d calls f in
      ⊎_elim (λ h. subst (λ n. IsOneOf (crossing_in (text_of here (DeclaresThen y rest))) (variable_of here n)) h.0
      (if_first (kir.has_cut (text_of here rest)) (variable_of here y) (crossing_in (text_of here rest))
      (outline_cuts program d calls f rest le k ∙ h.1)))
      (λ h. if_later (kir.has_cut (text_of here rest)) (variable_of here y) (variable_of here x)
      (crossing_in (text_of here rest)) (own d calls f rest le k x h)) c
  own d calls f (CutThen rest) le k x c = own d calls f rest le k x c
  own d calls f (CallsThen site g rest) le k x c =
      right_one (crossing_in (function_text program d (calls ++ site ∷ []) g))
      (crossing_in (text_of (inlining program d calls f) rest)) (variable_of (inlining program d calls f) x)
      (own d calls f rest le k.1 x c)
  own d calls f (BlockThen inner rest) le k x c =
      let here = inlining program d calls f in
      ⊎_elim (λ h. left_one (crossing_in (text_of here inner)) (crossing_in (text_of here rest)) (variable_of here x)
      (own d calls f inner le k.0 x h))
      (λ h. right_one (crossing_in (text_of here inner)) (crossing_in (text_of here rest)) (variable_of here x)
      (own d calls f rest le k.1 x h)) c

  -- where a function stands in a text: what crosses in it crosses in the text
  record Stands (d : ℕ) (text : Text) (v : Variable) : Type 0 where
    below : ℕ
    less : suc below ≤ d
    end : CallsEnd program (suc below) v.function
    declared : DeclaredIn (outline v.function) v.number
    across : (w : Variable) → IsOneOf (crossing_in (function_text program (suc below) v.calls v.function)) w →
        IsOneOf (crossing_in text) w

  deeper : (d : ℕ) (text : Text) (v : Variable) (more : Text) → ((w : Variable) → IsOneOf (crossing_in text) w →
      IsOneOf (crossing_in more) w) → Stands d text v → Stands d more v
  deeper d text v more f s =
      record { below = s.below; less = s.less; end = s.end; declared = s.declared; across = λ w h. f w (s.across w h) }

  -- a variable of the text of an outline is one of its own, or stands in the text of a call
  found_in : (d : ℕ) (calls : List ℕ) (f : ℕ) (o : Outline) → ((path : List ℕ) (g : ℕ) → CallsEnd program d g →
      (v : Variable) → IsOneOf (variables_in (function_text program d path g)) v →
      Stands d (function_text program d path g) v)
      → EachCall (Ends d) o → (v : Variable) → IsOneOf (variables_in (text_of (inlining program d calls f) o)) v
      → ((x : ℕ) × (DeclaredIn o x) × (variable_of (inlining program d calls f) x ≡ v)) ⊎
      Stands d (text_of (inlining program d calls f) o) v
  found_in d calls f NoPiece r k v h = absurd h
  found_in d calls f (DeclaresThen y rest) r k v h =
      let here = inlining program d calls f in
      ⊎_elim (λ q. inl (y, inl refl, q))
      (λ q. ⊎_elim (λ s. inl (s.0, inr s.1, s.2))
      (λ s. inr (deeper d (text_of here rest) v (text_of here (DeclaresThen y rest))
      (λ w m. if_later (kir.has_cut (text_of here rest)) (variable_of here y) w
      (crossing_in (text_of here rest)) m) s)) (found_in d calls f rest r k v q)) h
  found_in d calls f (CutThen rest) r k v h = ⊎_elim (λ s. inl s)
      (λ s. inr (deeper d (text_of (inlining program d calls f) rest) v
      (text_of (inlining program d calls f) (CutThen rest)) (λ w m. m) s)) (found_in d calls f rest r k v h)
  found_in d calls f (CallsThen site g rest) r k v h =
      let here = inlining program d calls f in
      let called = function_text program d (calls ++ site ∷ []) g in
      ⊎_elim (λ q. inr (deeper d called v (text_of here (CallsThen site g rest))
      (λ w m. left_one (crossing_in called) (crossing_in (text_of here rest)) w m)
      (r (calls ++ site ∷ []) g k.0 v q)))
      (λ q. ⊎_elim (λ s. inl s) (λ s.
      inr (deeper d (text_of here rest) v (text_of here (CallsThen site g rest))
      (λ w m. right_one (crossing_in called) (crossing_in (text_of here rest)) w m) s))
      (found_in d calls f rest r k.1 v q))
      (either_one (variables_in called) (variables_in (text_of here rest)) v h)
  found_in d calls f (BlockThen inner rest) r k v h =
      let here = inlining program d calls f in
      ⊎_elim (λ q. ⊎_elim (λ s. inl (s.0, inl s.1, s.2))
      (λ s. inr (deeper d (text_of here inner) v (text_of here (BlockThen inner rest))
      (λ w m. left_one (crossing_in (text_of here inner)) (crossing_in (text_of here rest)) w m) s))
      (found_in d calls f inner r k.0 v q))
      (λ q. ⊎_elim (λ s. inl (s.0, inr s.1, s.2))
      (λ s. inr (deeper d (text_of here rest) v (text_of here (BlockThen inner rest))
      (λ w m. right_one (crossing_in (text_of here inner)) (crossing_in (text_of here rest)) w m) s))
      (found_in d calls f rest r k.1 v q))
      (either_one (variables_in (text_of here inner)) (variables_in (text_of here rest)) v h)

  up : {a b c : ℕ} → a ≤ b → b ≤ c → a ≤ c
  up h k = omega arith

  -- each variable of the text of a function stands in it
  stands : (d : ℕ) (calls : List ℕ) (f : ℕ) → d ≤ length program.functions → CallsEnd program d f → (v : Variable) →
      IsOneOf (variables_in (function_text program d calls f)) v → Stands d (function_text program d calls f) v
  stands zero calls f le e v h = absurd h
  stands (suc d) calls f le e v h =
      let le' : d ≤ length program.functions = up (let q : d ≤ suc d = omega arith in q) le in
      let text : function_text program (suc d) calls f ≡ text_of (inlining program d calls f) (outline f) =
      function_found program d calls f e le' in
      ⊎_elim (λ s. subst (λ (w : Variable). Stands (suc d) (function_text program (suc d) calls f) w) s.2
      (record { below = d; less = omega arith; end = e; declared = s.1; across = λ w m. m }))
      (λ s. record {
        below = s.below;
        less = up s.less (omega arith);
        end = s.end;
        declared = s.declared;
        across = λ w m. subst (λ (t : Text). IsOneOf (crossing_in t) w) (sym text) (s.across w m);
      })
      (found_in d calls f (outline f) (λ path g end w m. stands d path g le' end w m) (ends d f e) v
      (subst (λ (t : Text). IsOneOf (variables_in t) v) text h))

  -- ---- from the text to the outline

  crosses_in : (d : ℕ) (calls : List ℕ) (f : ℕ) (o : Outline) → d ≤ length program.functions →
      ((path : List ℕ) (g : ℕ) → CallsEnd program d g → (v : Variable) →
      IsOneOf (crossing_in (function_text program d path g)) v →
      CrossesIn (entry (holding_of program.functions)) (outline v.function) v.number)
      → EachCall (Ends d) o → (v : Variable) → IsOneOf (crossing_in (text_of (inlining program d calls f) o)) v
      → ((x : ℕ) × CrossesIn (entry (holding_of program.functions)) o x ×
      (variable_of (inlining program d calls f) x ≡ v)) ⊎
      CrossesIn (entry (holding_of program.functions)) (outline v.function) v.number
  crosses_in d calls f NoPiece le r k v h = absurd h
  crosses_in d calls f (DeclaresThen y rest) le r k v h =
      let here = inlining program d calls f in
      ⊎_elim (λ q. inl (y, inl (refl, sym (outline_cuts program d calls f rest le k) ∙ q.1), q.0))
      (λ q. ⊎_elim (λ s. inl (s.0, inr s.1, s.2)) (λ s. inr s) (crosses_in d calls f rest le r k v q))
      (if_either (kir.has_cut (text_of here rest)) (variable_of here y) v (crossing_in (text_of here rest)) h)
  crosses_in d calls f (CutThen rest) le r k v h = crosses_in d calls f rest le r k v h
  crosses_in d calls f (CallsThen site g rest) le r k v h =
      ⊎_elim (λ q. inr (r (calls ++ site ∷ []) g k.0 v q)) (λ q. crosses_in d calls f rest le r k.1 v q)
      (either_one (crossing_in (function_text program d (calls ++ site ∷ []) g))
      (crossing_in (text_of (inlining program d calls f) rest)) v h)
  crosses_in d calls f (BlockThen inner rest) le r k v h =
      ⊎_elim (λ q. ⊎_elim (λ s. inl (s.0, inl s.1, s.2)) (λ s. inr s) (crosses_in d calls f inner le r k.0 v q))
      (λ q. ⊎_elim (λ s. inl (s.0, inr s.1, s.2)) (λ s. inr s) (crosses_in d calls f rest le r k.1 v q))
      (either_one (crossing_in (text_of (inlining program d calls f) inner))
      (crossing_in (text_of (inlining program d calls f) rest)) v h)

  -- what crosses in the text of a function crosses in its own function
  pub crosses_own : (d : ℕ) (calls : List ℕ) (f : ℕ) → d ≤ length program.functions → CallsEnd program d f →
      (v : Variable) → IsOneOf (crossing_in (function_text program d calls f)) v →
      CrossesIn (entry (holding_of program.functions)) (outline v.function) v.number
  crosses_own zero calls f le e v h = absurd h
  crosses_own (suc d) calls f le e v h =
      let le' : d ≤ length program.functions = up (let q : d ≤ suc d = omega arith in q) le in
      ⊎_elim (λ s. subst (λ (w : Variable). CrossesIn (entry (holding_of program.functions)) (outline w.function)
      w.number) s.2 s.1) (λ s. s)
      (crosses_in d calls f (outline f) le' (λ path g end w m. crosses_own d path g le' end w m) (ends d f e) v
      (subst (λ (t : Text). IsOneOf (crossing_in t) v) (function_found program d calls f e le') h))

  -- and a variable of the text that crosses in its own function crosses in the text
  pub own_crosses : (d : ℕ) (calls : List ℕ) (f : ℕ) → d ≤ length program.functions → CallsEnd program d f →
      (v : Variable) → IsOneOf (variables_in (function_text program d calls f)) v →
      CrossesIn (entry (holding_of program.functions)) (outline v.function) v.number
      → IsOneOf (crossing_in (function_text program d calls f)) v
  own_crosses d calls f le e v h c =
      let s = stands d calls f le e v h in
      let le' : s.below ≤ length program.functions =
      up (up (let q : s.below ≤ suc s.below = omega arith in q) s.less) le in
      s.across v (subst (λ (t : Text). IsOneOf (crossing_in t) v)
      (sym (function_found program s.below v.calls v.function s.end le'))
      (own s.below v.calls v.function (outline v.function) le' (ends s.below v.function s.end) v.number c))
