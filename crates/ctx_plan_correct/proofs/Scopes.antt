-- In each block of the inlined kernel the marked variables in whose scope it stands have different columns, with none
-- left out.
use Rattle.std.proofs.Common.{◌≡◌, ℕ, zero, suc, ◌+◌, ◌<◌, ◌≤◌, List, [], ◌∷◌, ◌++◌, Option, Some, None, length, map}
use Rattle.std.proofs.Common.{refl, sym, ap, ◌∙◌, subst, arith, ◌⊎◌, inl, inr, ⊎_elim, unwrap_or, length-append}
use Rattle.std.specs.Prelude.{Bool as Test, true, false}
use Rattle.std.specs.Prelude.{slice_get, if◌then◌else◌}
use Rattle.std.proofs.lemmas.Bool.{true≢false}
use Rattle.cl_model.specs.Tree.{Function, Program}
use Rattle.cl_model.specs.Calls.{no_function, function_at}
use Rattle.cl_model.specs.Lists.{IsOneOf, AllDiffer}
use Rattle.cl_model.specs.Valid.{CallsEnd, IsValid}
use Rattle.kir.specs.Tree.{Variable}
use Rattle.kir.specs.Inlined.{Text, NoText, DeclaredThen, CutThen as CutText, BlockThen as BlockText, Inlining}
use Rattle.kir.specs.Inlined.{variable_of, function_text, inlined, variables_in, declared_in, scopes_in, scopes_of}
use Rattle.ctx_plan.specs.Outline.{Outline, NoPiece, DeclaresThen, CutThen, CallsThen, BlockThen, function_outline}
use Rattle.ctx_plan.specs.Points.{entry}
use Rattle.ctx_plan.specs.Sharing.{holding_of, own_columns, Shares, row, both, crossing_of, shares_of}
use Rattle.ctx_plan.specs.Made.{number_at, taken_behind}
use Rattle.ctx_plan_correct.specs.Crossing.{EachCall}
use Rattle.ctx_plan_correct.specs.Placing.{after, IsPlaced}
use Rattle.ctx_plan_correct.specs.Scopes.{marked, column_of, IsFull}
use Rattle.ctx_plan_correct.proofs.Outlined.{text_of, inlining}
use Rattle.ctx_plan_correct.proofs.Holding.{function_found}
use Rattle.ctx_plan_correct.proofs.Crossing.{function_each}
use Rattle.ctx_plan_correct.proofs.Crosses.{left_one, right_one, either_one}
use Rattle.ctx_plan_correct.proofs.Shared.{function_placed}

up : {a b c : ℕ} → a ≤ b → b ≤ c → a ≤ c
up h k = omega arith

-- ---- the variables that a block declares itself

abbrev direct : Outline → List ℕ
direct NoPiece = []
direct (DeclaresThen x rest) = x ∷ direct rest
direct (CutThen rest) = direct rest
direct (CallsThen site g rest) = direct rest
direct (BlockThen inner rest) = direct rest

-- the marked ones among them
abbrev add_if : Test → ℕ → List ℕ → List ℕ
add_if b x xs = if b then x ∷ xs else xs

abbrev chosen : (ℕ → Test) → Outline → List ℕ
chosen m NoPiece = []
chosen m (DeclaresThen x rest) = add_if (m x) x (chosen m rest)
chosen m (CutThen rest) = chosen m rest
chosen m (CallsThen site g rest) = chosen m rest
chosen m (BlockThen inner rest) = chosen m rest

-- where the text of each call is a block
declared_direct : (program : Program) (d : ℕ) (calls : List ℕ) (f : ℕ) (o : Outline) (v : Variable) →
    IsOneOf (declared_in (text_of (inlining program d calls f) o)) v → (x : ℕ) × IsOneOf (direct o) x ×
    (variable_of (inlining program d calls f) x ≡ v)
declared_direct program d calls f NoPiece v h = absurd h
declared_direct program d calls f (DeclaresThen x rest) v h =
    ⊎_elim (λ e. (x, inl refl, e)) (λ k. let r = declared_direct program d calls f rest v k in (r.0, inr r.1, r.2)) h
declared_direct program d calls f (CutThen rest) v h = declared_direct program d calls f rest v h
declared_direct program d calls f (CallsThen site g rest) v h = declared_direct program d calls f rest v h
declared_direct program d calls f (BlockThen inner rest) v h = declared_direct program d calls f rest v h

direct_declared : (program : Program) (d : ℕ) (calls : List ℕ) (f : ℕ) (o : Outline) (x : ℕ) → IsOneOf (direct o) x →
    IsOneOf (declared_in (text_of (inlining program d calls f) o)) (variable_of (inlining program d calls f) x)
direct_declared program d calls f NoPiece x h = absurd h
direct_declared program d calls f (DeclaresThen y rest) x h = ⊎_elim
    (λ e. inl (ap (variable_of (inlining program d calls f)) e))
    (λ k. inr (direct_declared program d calls f rest x k)) h
direct_declared program d calls f (CutThen rest) x h = direct_declared program d calls f rest x h
direct_declared program d calls f (CallsThen site g rest) x h = direct_declared program d calls f rest x h
direct_declared program d calls f (BlockThen inner rest) x h = direct_declared program d calls f rest x h

add_either : (b : Test) (x y : ℕ) (xs : List ℕ) → IsOneOf (add_if b x xs) y → ((x ≡ y) × (b ≡ true)) ⊎ IsOneOf xs y
add_either true x y xs h = ⊎_elim (λ e. inl (e, refl)) (λ k. inr k) h
add_either false x y xs h = inr h

module _ (m : ℕ → Test) (numbers taken : ℕ → ℕ) where
  chosen_direct : (o : Outline) (x : ℕ) → IsOneOf (chosen m o) x → IsOneOf (direct o) x × (m x ≡ true)
  chosen_direct NoPiece x h = absurd h
  chosen_direct (DeclaresThen y rest) x h =
      ⊎_elim (λ e. (inl e.0, subst (λ z. m z ≡ true) e.0 e.1)) (λ k. let r = chosen_direct rest x k in
      (inr r.0, r.1)) (add_either (m y) y x (chosen m rest) h)
  chosen_direct (CutThen rest) x h = chosen_direct rest x h
  chosen_direct (CallsThen site g rest) x h = chosen_direct rest x h
  chosen_direct (BlockThen inner rest) x h = chosen_direct rest x h

  add_length : (b : Test) (x : ℕ) (xs : List ℕ) (n : ℕ) → length xs ≡ n →
      length (add_if b x xs) ≡ (if b then 1 else 0) + n
  add_length true x xs n e = omega (arith, e)
  add_length false x xs n e = omega (arith, e)

  chosen_many : (o : Outline) → length (chosen m o) ≡ own_columns m o
  chosen_many NoPiece = refl
  chosen_many (DeclaresThen x rest) = add_length (m x) x (chosen m rest) (own_columns m rest) (chosen_many rest)
  chosen_many (CutThen rest) = chosen_many rest
  chosen_many (CallsThen site g rest) = chosen_many rest
  chosen_many (BlockThen inner rest) = chosen_many rest

  after_low : (b : Test) (next n : ℕ) → after b next ≤ n → next ≤ n
  after_low true next n h = omega (arith, h)
  after_low false next n h = h

  after_high : (b : Test) (next k n : ℕ) → n < after b next + k → n < next + ((if b then 1 else 0) + k)
  after_high true next k n h = omega (arith, h)
  after_high false next k n h = omega (arith, h)

  marked_high : (b : Test) (next k n : ℕ) → b ≡ true → n ≡ next → n < next + ((if b then 1 else 0) + k)
  marked_high true next k n e q = omega (arith, q)
  marked_high false next k n e q = absurd (true≢false (sym e))

  marked_after : (b : Test) (next n : ℕ) → b ≡ true → after b next ≤ n → next < n
  marked_after true next n e h = omega (arith, h)
  marked_after false next n e h = absurd (true≢false (sym e))

  own_low : (within next : ℕ) (o : Outline) → IsPlaced m numbers taken within next o → (x : ℕ) →
      IsOneOf (direct o) x → m x ≡ true → next ≤ numbers x
  own_low within next NoPiece p x h e = absurd h
  own_low within next (DeclaresThen y rest) p x h e =
      ⊎_elim (λ s. let q = p.0 (subst (λ z. m z ≡ true) (sym s) e) in let r = ap numbers s in
      omega (arith, q, r)) (λ k. after_low (m y) next (numbers x)
      (own_low within (after (m y) next) rest p.1 x k e)) h
  own_low within next (CutThen rest) p x h e = own_low within next rest p x h e
  own_low within next (CallsThen site g rest) p x h e = own_low within next rest p.1 x h e
  own_low within next (BlockThen inner rest) p x h e = own_low within next rest p.1 x h e

  own_high : (within next : ℕ) (o : Outline) → IsPlaced m numbers taken within next o → (x : ℕ) →
      IsOneOf (direct o) x → m x ≡ true → numbers x < next + own_columns m o
  own_high within next NoPiece p x h e = absurd h
  own_high within next (DeclaresThen y rest) p x h e =
      ⊎_elim (λ s. let t = subst (λ z. m z ≡ true) (sym s) e in
      marked_high (m y) next (own_columns m rest) (numbers x) t (sym (ap numbers s) ∙ p.0 t))
      (λ k. after_high (m y) next (own_columns m rest) (numbers x) (own_high within (after (m y) next) rest p.1 x k
      e)) h
  own_high within next (CutThen rest) p x h e = own_high within next rest p x h e
  own_high within next (CallsThen site g rest) p x h e = own_high within next rest p.1 x h e
  own_high within next (BlockThen inner rest) p x h e = own_high within next rest p.1 x h e

  own_apart : (within next : ℕ) (o : Outline) → IsPlaced m numbers taken within next o → (x y : ℕ) →
      IsOneOf (direct o) x → IsOneOf (direct o) y → m x ≡ true → m y ≡ true → numbers x ≡ numbers y → x ≡ y
  own_apart within next NoPiece p x y h k e f s = absurd h
  own_apart within next (DeclaresThen z rest) p x y h k e f s =
      ⊎_elim (λ hx. ⊎_elim (λ ky. sym hx ∙ ky)
      (λ ky. let t = subst (λ w. m w ≡ true) (sym hx) e in
      let lt = marked_after (m z) next (numbers y) t (own_low within (after (m z) next) rest p.1 y ky f) in
      let at = p.0 t in
      let r = ap numbers hx in
      absurd (omega (arith, lt, at, r, s))) k)
      (λ hx. ⊎_elim (λ ky. let t = subst (λ w. m w ≡ true) (sym ky) f in
      let lt = marked_after (m z) next (numbers x) t (own_low within (after (m z) next) rest p.1 x hx e) in
      let at = p.0 t in
      let r = ap numbers ky in
      absurd (omega (arith, lt, at, r, s)))
      (λ ky. own_apart within (after (m z) next) rest p.1 x y hx ky e f s) k) h
  own_apart within next (CutThen rest) p x y h k e f s = own_apart within next rest p x y h k e f s
  own_apart within next (CallsThen site g rest) p x y h k e f s = own_apart within next rest p.1 x y h k e f s
  own_apart within next (BlockThen inner rest) p x y h k e f s = own_apart within next rest p.1 x y h k e f s

  add_differ : (b : Test) (x : ℕ) (xs : List ℕ) → AllDiffer xs → (b ≡ true → IsOneOf xs x → ⊥) →
      AllDiffer (add_if b x xs)
  add_differ true x xs d n = (n refl, d)
  add_differ false x xs d n = d

  chosen_differ : (within next : ℕ) (o : Outline) → IsPlaced m numbers taken within next o → AllDiffer (chosen m o)
  chosen_differ within next NoPiece p = tt
  chosen_differ within next (DeclaresThen y rest) p =
      add_differ (m y) y (chosen m rest) (chosen_differ within (after (m y) next) rest p.1)
      (λ t h. let c = chosen_direct rest y h in
      let lt = marked_after (m y) next (numbers y) t (own_low within (after (m y) next) rest p.1 y c.0 c.1) in
      let at = p.0 t in
      omega (arith, lt, at))
  chosen_differ within next (CutThen rest) p = chosen_differ within next rest p
  chosen_differ within next (CallsThen site g rest) p = chosen_differ within next rest p.1
  chosen_differ within next (BlockThen inner rest) p = chosen_differ within next rest p.1

-- ---- one block more

map_one : (here : Inlining) (xs : List ℕ) (v : Variable) → IsOneOf (map (variable_of here) xs) v →
    (x : ℕ) × IsOneOf xs x × (variable_of here x ≡ v)
map_one here [] v h = absurd h
map_one here (x ∷ xs) v h = ⊎_elim (λ e. (x, inl refl, e)) (λ k. let r = map_one here xs v k in (r.0, inr r.1, r.2)) h

map_differ : (here : Inlining) (xs : List ℕ) → AllDiffer xs → AllDiffer (map (variable_of here) xs)
map_differ here [] d = tt
map_differ here (x ∷ xs) d = (
  (λ h. let r = map_one here xs (variable_of here x) h in
      d.0 (subst (λ z. IsOneOf xs z) (ap (λ v. v.number) r.2) r.1)),
  map_differ here xs d.1,
)

map_many : (here : Inlining) (xs : List ℕ) → length (map (variable_of here) xs) ≡ length xs
map_many here [] = refl
map_many here (x ∷ xs) = ap suc (map_many here xs)

append_differ : (xs ys : List Variable) → AllDiffer xs → AllDiffer ys →
    ((v : Variable) → IsOneOf xs v → IsOneOf ys v → ⊥) → AllDiffer (xs ++ ys)
append_differ [] ys d e n = e
append_differ (x ∷ xs) ys d e n = (
  (λ h. ⊎_elim (λ k. d.0 k) (λ k. n x (inl refl) k) (either_one xs ys x h)),
  append_differ xs ys d.1 e (λ v h k. n v (inr h) k),
)

module _ (program : Program) (varying : List (List Test)) (valid : IsValid program) where
  abbrev shares : Shares
  shares = shares_of program varying

  abbrev Full : List Variable → ℕ → Type 0
  Full scope n = IsFull program varying (shares_of program varying) scope n

  extend : (d : ℕ) (calls : List ℕ) (f : ℕ) (o : Outline) (within start : ℕ) →
      IsPlaced (marked program varying f) (number_at (row (shares_of program varying).numbers f))
      (number_at (shares_of program varying).taken) within start o
      → (around : List Variable) → Full around (taken_behind (shares_of program varying).taken calls + start)
      → Full (declared_in (text_of (inlining program d calls f) o) ++ around)
      (taken_behind (shares_of program varying).taken calls + (start + own_columns (marked program varying f) o))
  extend d calls f o within start p around g =
      let here = inlining program d calls f in
      let m = marked program varying f in
      let nums = number_at (row (shares_of program varying).numbers f) in
      let tk = number_at (shares_of program varying).taken in
      let own = declared_in (text_of here o) in
      let base = taken_behind (shares_of program varying).taken calls in
      record {
        below =
            λ v h e.
            ⊎_elim (λ k. let r = declared_direct program d calls f o v k in
            let q = own_high m nums tk within start o p r.0 r.1
            (subst (λ (w : Variable). marked program varying w.function w.number ≡ true) (sym r.2) e) in
            subst (λ (w : Variable). column_of (shares_of program varying) w < base + (start + own_columns m o)) r.2
            (omega (arith, q)))
            (λ k. let q = g.below v k e in omega (arith, q)) (either_one own around v h);
        apart =
            λ v w h k e f' s.
            ⊎_elim (λ hv. let r = declared_direct program d calls f o v hv in
            let ev = subst (λ (z : Variable). marked program varying z.function z.number ≡ true) (sym r.2) e in
            ⊎_elim (λ kw. let t = declared_direct program d calls f o w kw in
            let ew = subst (λ (z : Variable). marked program varying z.function z.number ≡ true) (sym t.2) f' in
            let same : base + nums r.0 ≡ base + nums t.0 = ap (column_of (shares_of program varying)) r.2 ∙
            (s ∙ sym (ap (column_of (shares_of program varying)) t.2)) in
            sym r.2 ∙ (ap (variable_of here) (own_apart m nums tk within start o p r.0 t.0 r.1 t.1 ev ew
            (omega (arith, same))) ∙ t.2))
            (λ kw. let low = own_low m nums tk within start o p r.0 r.1 ev in
            let b = g.below w kw f' in
            let c : base + nums r.0 ≡ column_of (shares_of program varying) v =
            ap (column_of (shares_of program varying)) r.2 in
            absurd (omega (arith, low, b, c, s))) (either_one own around w k))
            (λ hv. ⊎_elim (λ kw. let t = declared_direct program d calls f o w kw in
            let ew = subst (λ (z : Variable). marked program varying z.function z.number ≡ true) (sym t.2) f' in
            let low = own_low m nums tk within start o p t.0 t.1 ew in
            let b = g.below v hv e in
            let c : base + nums t.0 ≡ column_of (shares_of program varying) w =
            ap (column_of (shares_of program varying)) t.2 in
            absurd (omega (arith, low, b, c, s)))
            (λ kw. g.apart v w hv kw e f' s) (either_one own around w k)) (either_one own around v h);
        some = map (variable_of here) (chosen m o) ++ g.some;
        differ =
            append_differ (map (variable_of here) (chosen m o)) g.some
            (map_differ here (chosen m o) (chosen_differ m nums tk within start o p)) g.differ
            (λ v h k. let r = map_one here (chosen m o) v h in
            let c = chosen_direct m nums tk o r.0 r.1 in
            let low = own_low m nums tk within start o p r.0 c.0 c.1 in
            let a = g.each v k in
            let b = g.below v a.0 a.1 in
            let q : base + nums r.0 ≡ column_of (shares_of program varying) v =
            ap (column_of (shares_of program varying)) r.2 in
            omega (arith, low, b, q));
        each =
            λ v h.
            ⊎_elim (λ k. let r = map_one here (chosen m o) v k in
            let c = chosen_direct m nums tk o r.0 r.1 in
            subst (λ (w : Variable). IsOneOf (own ++ around) w × (marked program varying w.function w.number ≡ true))
            r.2 (left_one own around (variable_of here r.0) (direct_declared program d calls f o r.0 c.0), c.1))
            (λ k. let a = g.each v k in (right_one own around v a.0, a.1))
            (either_one (map (variable_of here) (chosen m o)) g.some v h);
        many = (let a = length-append (map (variable_of here) (chosen m o)) g.some in
            let b = map_many here (chosen m o) in let c = chosen_many m nums tk o in let e = g.many in
            omega (arith, a, b, c, e));
      }

  -- ---- all blocks

  taken_append : (taken calls : List ℕ) (site : ℕ) →
      taken_behind taken (calls ++ site ∷ []) ≡ taken_behind taken calls + number_at taken site
  taken_append taken [] site = omega arith
  taken_append taken (c ∷ calls) site = let r = taken_append taken calls site in omega (arith, r)

  abbrev Place : ℕ → Type 0
  Place g =
      IsPlaced (marked program varying g) (number_at (row (shares_of program varying).numbers g))
      (number_at (shares_of program varying).taken)
      (0 + own_columns (marked program varying g) (function_outline (entry (holding_of program.functions))
      (function_at program g))) 0
      (function_outline (entry (holding_of program.functions)) (function_at program g))

  -- a function is placed, also one that is not there
  placed_any : (g : ℕ) → Place g
  placed_any g = by (slice_get program.functions g) refl
    where
      by : (o : Option Function) → slice_get program.functions g ≡ o → Place g
      by (Some f) e =
          let same : f ≡ function_at program g = sym (ap (λ o. unwrap_or o no_function) e) in
          subst (λ (h : Function).
          IsPlaced (λ x. entry (both 0 (crossing_of (holding_of program.functions) h) (row varying g)) x)
          (number_at (row (shares_of program varying).numbers g)) (number_at (shares_of program varying).taken)
          (0 + own_columns (λ x. entry (both 0 (crossing_of (holding_of program.functions) h) (row varying g)) x)
          (function_outline (entry (holding_of program.functions)) h)) 0
          (function_outline (entry (holding_of program.functions)) h)) same
          (function_placed program varying valid g f e)
      by None e =
          let same : no_function ≡ function_at program g = sym (ap (λ o. unwrap_or o no_function) e) in
          subst (λ (h : Function).
          IsPlaced (λ x. entry (both 0 (crossing_of (holding_of program.functions) h) (row varying g)) x)
          (number_at (row (shares_of program varying).numbers g)) (number_at (shares_of program varying).taken)
          (0 + own_columns (λ x. entry (both 0 (crossing_of (holding_of program.functions) h) (row varying g)) x)
          (function_outline (entry (holding_of program.functions)) h)) 0
          (function_outline (entry (holding_of program.functions)) h)) same tt

  -- each scope among these is full for some count
  abbrev AllFull : List (List Variable) → Type 0
  AllFull scopes = (scope : List Variable) → IsOneOf scopes scope → (n : ℕ) × Full scope n

  all_append : (xs ys : List (List Variable)) → AllFull xs → AllFull ys → AllFull (xs ++ ys)
  all_append xs ys f g scope h = ⊎_elim (λ k. f scope k) (λ k. g scope k) (either_one xs ys scope h)

  all_cons : (x : List Variable) (xs : List (List Variable)) (n : ℕ) → Full x n → AllFull xs → AllFull (x ∷ xs)
  all_cons x xs n g f scope h = ⊎_elim (λ e. (n, subst (λ (s : List Variable). Full s n) e g)) (λ k. f scope k) h

  -- what is asked of the blocks of the functions that are called
  abbrev CalledFull : ℕ → Type 0
  CalledFull d = (path : List ℕ) (g : ℕ) → CallsEnd program d g → (around : List Variable) →
      Full around (taken_behind (shares_of program varying).taken path) →
      AllFull (scopes_in around (BlockText (function_text program d path g) NoText))

  pieces_full : (d : ℕ) → CalledFull d → (calls : List ℕ) (f : ℕ) (o : Outline) →
      EachCall (λ site g. CallsEnd program d g) o → (within next : ℕ)
      → IsPlaced (marked program varying f) (number_at (row (shares_of program varying).numbers f))
      (number_at (shares_of program varying).taken) within next o
      → (around : List Variable) → Full around (taken_behind (shares_of program varying).taken calls + within) →
      AllFull (scopes_in around (text_of (inlining program d calls f) o))
  pieces_full d r calls f NoPiece k within next p around g = λ scope h. absurd h
  pieces_full d r calls f (DeclaresThen x rest) k within next p around g =
      pieces_full d r calls f rest k within (after (marked program varying f x) next) p.1 around g
  pieces_full d r calls f (CutThen rest) k within next p around g =
      pieces_full d r calls f rest k within next p around g
  pieces_full d r calls f (CallsThen site h rest) k within next p around g =
      let text = function_text program d (calls ++ site ∷ []) h in
      let at : taken_behind (shares_of program varying).taken calls + within ≡
      taken_behind (shares_of program varying).taken (calls ++ site ∷ []) =
      (let t = taken_append (shares_of program varying).taken calls site in let q = p.0 in omega (arith, t, q)) in
      let inner = r (calls ++ site ∷ []) h k.0 around (subst (λ n. Full around n) at g) in
      all_cons (declared_in text ++ around) (scopes_in (declared_in text ++ around) text ++
      scopes_in around (text_of (inlining program d calls f) rest))
      (inner (declared_in text ++ around) (inl refl)).0 (inner (declared_in text ++ around) (inl refl)).1
      (all_append (scopes_in (declared_in text ++ around) text)
      (scopes_in around (text_of (inlining program d calls f) rest))
      (λ scope m. inner scope (inr (left_one (scopes_in (declared_in text ++ around) text) [] scope m)))
      (pieces_full d r calls f rest k.1 within next p.1 around g))
  pieces_full d r calls f (BlockThen inner rest) k within next p around g =
      let text = text_of (inlining program d calls f) inner in
      let m = marked program varying f in
      let more = extend d calls f inner (within + own_columns m inner) within p.0 around g in
      all_cons (declared_in text ++ around) (scopes_in (declared_in text ++ around) text ++
      scopes_in around (text_of (inlining program d calls f) rest))
      (taken_behind (shares_of program varying).taken calls + (within + own_columns m inner)) more
      (all_append (scopes_in (declared_in text ++ around) text)
      (scopes_in around (text_of (inlining program d calls f) rest))
      (pieces_full d r calls f inner k.0 (within + own_columns m inner) within p.0 (declared_in text ++ around)
      more)
      (pieces_full d r calls f rest k.1 within next p.1 around g))

  nothing_more : (xs : List (List Variable)) → xs ++ [] ≡ xs
  nothing_more [] = refl
  nothing_more (x ∷ xs) = ap (λ r. x ∷ r) (nothing_more xs)

  called_full : (d : ℕ) → d ≤ length program.functions → CalledFull d
  called_full zero le path g e around h = absurd e
  called_full (suc d) le path g e around h =
      let le' : d ≤ length program.functions = up (let q : d ≤ suc d = omega arith in q) le in
      let o = function_outline (entry (holding_of program.functions)) (function_at program g) in
      let m = marked program varying g in
      let same = function_found program d path g e le' in
      let text = text_of (inlining program d path g) o in
      let zero_more : taken_behind (shares_of program varying).taken path ≡
      taken_behind (shares_of program varying).taken path + 0 = omega arith in
      let more =
      extend d path g o (0 + own_columns m o) 0 (placed_any g) around (subst (λ n. Full around n) zero_more h) in
      subst (λ (t : Text). AllFull (scopes_in around (BlockText t NoText))) (sym same)
      (all_cons (declared_in text ++ around) (scopes_in (declared_in text ++ around) text ++ [])
      (taken_behind (shares_of program varying).taken path + (0 + own_columns m o)) more
      (subst AllFull (sym (nothing_more (scopes_in (declared_in text ++ around) text)))
      (pieces_full d (called_full d le') path g o (function_each (λ site k. CallsEnd program d k)
      (entry (holding_of program.functions)) (function_at program g) e) (0 + own_columns m o) 0 (placed_any g)
      (declared_in text ++ around) more)))

  none_full : Full [] 0
  none_full = record {
    below = λ v h e. absurd h;
    apart = λ v w h k e f s. absurd h;
    some = [];
    differ = tt;
    each = λ v h. absurd h;
    many = refl;
  }

  -- every scope of the inlined kernel is full
  pub scopes_full : AllFull (scopes_of program)
  scopes_full = called_full (length program.functions) (omega arith) [] program.kernel
      (valid.calls program.kernel valid.kernel) [] none_full

  -- each variable of a text is in the scope of a block
  in_scope : (around : List Variable) (t : Text) (v : Variable) → IsOneOf (variables_in t) v →
      IsOneOf (declared_in t) v ⊎ ((scope : List Variable) × IsOneOf (scopes_in around t) scope × IsOneOf scope v)
  in_scope around NoText v h = absurd h
  in_scope around (DeclaredThen w rest) v h =
      ⊎_elim (λ e. inl (inl e)) (λ k. ⊎_elim (λ d. inl (inr d)) (λ s. inr s) (in_scope around rest v k)) h
  in_scope around (CutText rest) v h = in_scope around rest v h
  in_scope around (BlockText inside rest) v h =
      let own = declared_in inside ++ around in
      ⊎_elim (λ k. ⊎_elim (λ d. inr (own, inl refl, left_one (declared_in inside) around v d)) (λ s. inr (
        s.0,
        inr (left_one (scopes_in own inside) (scopes_in around rest) s.0 s.1),
        s.2,
      )) (in_scope own inside v k))
      (λ k. ⊎_elim (λ d. inl d) (λ s. inr (
        s.0,
        inr (right_one (scopes_in own inside) (scopes_in around rest) s.0 s.1),
        s.2,
      ))
      (in_scope around rest v k)) (either_one (variables_in inside) (variables_in rest) v h)

  pub has_scope : (v : Variable) → IsOneOf (variables_in (inlined program)) v → (scope : List Variable) ×
      IsOneOf (scopes_of program) scope × IsOneOf scope v
  has_scope v h = ⊎_elim (λ d. absurd d) (λ s. s) (in_scope [] (BlockText (inlined program) NoText) v
      (left_one (variables_in (inlined program)) [] v h))
