-- The arms of a switch hold the statements of its parts, in their order.
use Rattle.std.proofs.Common.{◌≡◌, ℕ, ◌+◌, ℤ, List, [], ◌∷◌, ◌++◌, Bool, false, if◌then◌else◌, refl, ap, sym, ◌∙◌}
use Rattle.std.proofs.Common.{arith}
use Rattle.cl_model.specs.Tree.{Function, Program, Statement, Statements, empty, also, Arms, no_arm, arm}
use Rattle.cl_model.specs.Valid.{Scope, AllFit, ArmsFit, AreScoped, AreScopedArms, AllExitsFit, ArmsExitsFit}
use Rattle.cl_model.specs.Valid.{all_declarations, arms_declarations, labels_of, defaults_of}
use Rattle.cl_meaning.specs.Typed.{What, nothing, value, target, offset, values, barrier, fence, lines, statement}
use Rattle.cl_meaning.specs.Typed.{labelled, function, functions, Piece}
use Rattle.cl_meaning.specs.Statements.{alone, body_of, followed, arms_by, arms_from, arms_of}
use Rattle.cl_check_sound.proofs.Lining.{all_fit_followed, exits_followed, declarations_followed}
use Rattle.cl_check_sound.proofs.Labelling.{labels_in, default_in, all_labels, defaults}

-- the statements of pieces, their labels aside
abbrev pub bodies : List Piece → Statements
bodies [] = empty
bodies (p ∷ ps) = also (body_of p.what) (bodies ps)

scoped_followed : (scope : Scope) (a b : Statements) → AreScoped scope a → AreScoped scope b →
    AreScoped scope (followed a b)
scoped_followed scope empty b h k = k
scoped_followed scope (also s a) b h k = (h.0, scoped_followed scope a b h.1 k)

-- whatever is to hold of arms: what is seen of them goes from each list of statements to the next
module _ (Q : Arms → Type 0) (R : Statements → Type 0) (one : (ls : List ℤ) (o : Bool) (b : Statements) (as' : Arms) →
    R b → Q as' → Q (arm ls o b as')) (last : Q no_arm) (start : (s : Statement) (b : Statements) → R (also s b) →
    R (alone s)) (next : (s : Statement) (b : Statements) → R (also s b) →
    R b) (behind : (a : Statements) (s : Statement) → R a → R (alone s) → R (followed a (alone s))) where
  by_what : (w : What) (rest : Statements) (ls : List ℤ) (o : Bool) (b : Statements) (g : List ℤ → Bool → Statements →
      Arms) → R b → R (also (body_of w) rest) → ((ls' : List ℤ) (o' : Bool) (b' : Statements) → R b' →
      Q (g ls' o' b')) → Q (arms_by ls o b w g)
  by_what (labelled ls' o' s) rest ls o b g h k q =
      one ls o b (g ls' o' (alone s)) h (q ls' o' (alone s) (start s rest k))
  by_what nothing rest ls o b g h k q =
      q ls o (followed b (alone (body_of nothing))) (behind b (body_of nothing) h (start (body_of nothing) rest k))
  by_what (value e) rest ls o b g h k q =
      q ls o (followed b (alone (body_of (value e))))
      (behind b (body_of (value e)) h (start (body_of (value e)) rest k))
  by_what (target p) rest ls o b g h k q =
      q ls o (followed b (alone (body_of (target p))))
      (behind b (body_of (target p)) h (start (body_of (target p)) rest k))
  by_what (offset p) rest ls o b g h k q =
      q ls o (followed b (alone (body_of (offset p))))
      (behind b (body_of (offset p)) h (start (body_of (offset p)) rest k))
  by_what (values es) rest ls o b g h k q =
      q ls o (followed b (alone (body_of (values es))))
      (behind b (body_of (values es)) h (start (body_of (values es)) rest k))
  by_what (barrier site) rest ls o b g h k q =
      q ls o (followed b (alone (body_of (barrier site))))
      (behind b (body_of (barrier site)) h (start (body_of (barrier site)) rest k))
  by_what fence rest ls o b g h k q =
      q ls o (followed b (alone (body_of fence))) (behind b (body_of fence) h (start (body_of fence) rest k))
  by_what (lines l) rest ls o b g h k q =
      q ls o (followed b (alone (body_of (lines l))))
      (behind b (body_of (lines l)) h (start (body_of (lines l)) rest k))
  by_what (statement s) rest ls o b g h k q =
      q ls o (followed b (alone (body_of (statement s))))
      (behind b (body_of (statement s)) h (start (body_of (statement s)) rest k))
  by_what (function f) rest ls o b g h k q =
      q ls o (followed b (alone (body_of (function f))))
      (behind b (body_of (function f)) h (start (body_of (function f)) rest k))
  by_what (functions fs) rest ls o b g h k q =
      q ls o (followed b (alone (body_of (functions fs))))
      (behind b (body_of (functions fs)) h (start (body_of (functions fs)) rest k))

  from_all : (ls : List ℤ) (o : Bool) (b : Statements) (ps : List Piece) → R b → R (bodies ps) → Q (arms_from ls o b ps)
  unfolding arms_from
  from_all ls o b [] h k = one ls o b no_arm h last
  from_all ls o b (p ∷ ps) h k =
      by_what p.what (bodies ps) ls o b (λ ls' o' b'. arms_from ls' o' b' ps) h k (λ ls' o' b' r.
      from_all ls' o' b' ps r (next (body_of p.what) (bodies ps) k))

  first_what : (w : What) (ps : List Piece) (kind : _) → R (also (body_of w) (bodies ps)) →
      Q (arms_of (record { kind = kind; what = w } ∷ ps))
  first_what (labelled ls o s) ps kind k = from_all ls o (alone s) ps (start s (bodies ps) k) (next s (bodies ps) k)
  first_what nothing ps kind k =
      from_all [] false (alone (body_of nothing)) ps (start (body_of nothing) (bodies ps) k)
      (next (body_of nothing) (bodies ps) k)
  first_what (value e) ps kind k =
      from_all [] false (alone (body_of (value e))) ps (start (body_of (value e)) (bodies ps) k)
      (next (body_of (value e)) (bodies ps) k)
  first_what (target p) ps kind k =
      from_all [] false (alone (body_of (target p))) ps (start (body_of (target p)) (bodies ps) k)
      (next (body_of (target p)) (bodies ps) k)
  first_what (offset p) ps kind k =
      from_all [] false (alone (body_of (offset p))) ps (start (body_of (offset p)) (bodies ps) k)
      (next (body_of (offset p)) (bodies ps) k)
  first_what (values es) ps kind k =
      from_all [] false (alone (body_of (values es))) ps (start (body_of (values es)) (bodies ps) k)
      (next (body_of (values es)) (bodies ps) k)
  first_what (barrier site) ps kind k =
      from_all [] false (alone (body_of (barrier site))) ps (start (body_of (barrier site)) (bodies ps) k)
      (next (body_of (barrier site)) (bodies ps) k)
  first_what fence ps kind k = from_all [] false (alone (body_of fence)) ps (start (body_of fence) (bodies ps) k)
      (next (body_of fence) (bodies ps) k)
  first_what (lines l) ps kind k =
      from_all [] false (alone (body_of (lines l))) ps (start (body_of (lines l)) (bodies ps) k)
      (next (body_of (lines l)) (bodies ps) k)
  first_what (statement s) ps kind k =
      from_all [] false (alone (body_of (statement s))) ps (start (body_of (statement s)) (bodies ps) k)
      (next (body_of (statement s)) (bodies ps) k)
  first_what (function f) ps kind k =
      from_all [] false (alone (body_of (function f))) ps (start (body_of (function f)) (bodies ps) k)
      (next (body_of (function f)) (bodies ps) k)
  first_what (functions fs) ps kind k =
      from_all [] false (alone (body_of (functions fs))) ps (start (body_of (functions fs)) (bodies ps) k)
      (next (body_of (functions fs)) (bodies ps) k)

  pub of_all : (ps : List Piece) → R (bodies ps) → Q (arms_of ps)
  of_all [] h = last
  of_all (p ∷ ps) h = first_what p.what ps p.kind h

pub arms_fit : (P : Program) (f : Function) (ps : List Piece) → AllFit P f (bodies ps) → ArmsFit P f (arms_of ps)
arms_fit P f ps h = of_all (ArmsFit P f) (AllFit P f) (λ ls o b as' x y. (x, y)) tt (λ s b x. (x.0, tt))
    (λ s b x. x.1) (λ a s x y. all_fit_followed P f a (alone s) x y) ps h

pub arms_scoped : (scope : Scope) (ps : List Piece) → AreScoped scope (bodies ps) → AreScopedArms scope (arms_of ps)
arms_scoped scope ps h = of_all (AreScopedArms scope) (AreScoped scope) (λ ls o b as' x y. (x, y)) tt (λ s b x. (
  x.0,
  tt,
)) (λ s b x. x.1) (λ a s x y. scoped_followed scope a (alone s) x y) ps h

pub arms_exit : (x y : Bool) (ps : List Piece) → AllExitsFit x y (bodies ps) → ArmsExitsFit x y (arms_of ps)
arms_exit x y ps h = of_all (ArmsExitsFit x y) (AllExitsFit x y) (λ ls o b as' u v. (u, v)) tt (λ s b u. (u.0, tt))
    (λ s b u. u.1) (λ a s u v. exits_followed x y a (alone s) u v) ps h

-- ---- sums over the arms

-- what is counted of arms, where it is a sum over their statements and labels
module _ (A : Statements → ℕ) (B : Arms → ℕ) (nothing' : A empty ≡ 0) (first : (s : Statement) (r : Statements) →
    A (also s r) ≡ A (alone s) + A r) (behind : (a b : Statements) →
    A (followed a b) ≡ A a + A b) (last : B no_arm ≡ 0) (each' : (ls : List ℤ) (o : Bool) (b : Statements)
    (r : Arms) → B (arm ls o b r) ≡ A b + B r) where
  count_by : (w : What) (rest : ℕ) (ls : List ℤ) (o : Bool) (b : Statements) (g : List ℤ → Bool → Statements → Arms) →
      ((ls' : List ℤ) (o' : Bool) (b' : Statements) → B (g ls' o' b') ≡ A b' + rest) →
      B (arms_by ls o b w g) ≡ A b + (A (alone (body_of w)) + rest)
  count_by (labelled ls' o' s) rest ls o b g q = let e = q ls' o' (alone s) in let d =
      each' ls o b (g ls' o' (alone s)) in omega arith
  count_by nothing rest ls o b g q = let e = q ls o (followed b (alone (body_of nothing))) in let d =
      behind b (alone (body_of nothing)) in omega arith
  count_by (value z) rest ls o b g q = let e = q ls o (followed b (alone (body_of (value z)))) in let d =
      behind b (alone (body_of (value z))) in omega arith
  count_by (target z) rest ls o b g q = let e = q ls o (followed b (alone (body_of (target z)))) in let d =
      behind b (alone (body_of (target z))) in omega arith
  count_by (offset z) rest ls o b g q = let e = q ls o (followed b (alone (body_of (offset z)))) in let d =
      behind b (alone (body_of (offset z))) in omega arith
  count_by (values z) rest ls o b g q = let e = q ls o (followed b (alone (body_of (values z)))) in let d =
      behind b (alone (body_of (values z))) in omega arith
  count_by (barrier z) rest ls o b g q = let e = q ls o (followed b (alone (body_of (barrier z)))) in let d =
      behind b (alone (body_of (barrier z))) in omega arith
  count_by fence rest ls o b g q = let e = q ls o (followed b (alone (body_of fence))) in let d =
      behind b (alone (body_of fence)) in omega arith
  count_by (lines z) rest ls o b g q = let e = q ls o (followed b (alone (body_of (lines z)))) in let d =
      behind b (alone (body_of (lines z))) in omega arith
  count_by (statement z) rest ls o b g q = let e = q ls o (followed b (alone (body_of (statement z)))) in let d =
      behind b (alone (body_of (statement z))) in omega arith
  count_by (function z) rest ls o b g q = let e = q ls o (followed b (alone (body_of (function z)))) in let d =
      behind b (alone (body_of (function z))) in omega arith
  count_by (functions z) rest ls o b g q = let e = q ls o (followed b (alone (body_of (functions z)))) in let d =
      behind b (alone (body_of (functions z))) in omega arith

  count_from : (ls : List ℤ) (o : Bool) (b : Statements) (ps : List Piece) →
      B (arms_from ls o b ps) ≡ A b + A (bodies ps)
  unfolding arms_from
  count_from ls o b [] = let e = each' ls o b no_arm in let d = last in let c = nothing' in omega arith
  count_from ls o b (p ∷ ps) = let d = first (body_of p.what) (bodies ps) in let e =
      count_by p.what (A (bodies ps)) ls o b (λ ls' o' b'. arms_from ls' o' b' ps) (λ ls' o' b'.
      count_from ls' o' b' ps) in omega arith

  count_first : (w : What) (ps : List Piece) (kind : _) → B (arms_of (record { kind = kind; what = w } ∷ ps)) ≡
      A (also (body_of w) (bodies ps))
  count_first (labelled ls o s) ps kind = let e = count_from ls o (alone s) ps in let d =
      first (s) (bodies ps) in omega arith
  count_first nothing ps kind = let e = count_from [] false (alone (body_of nothing)) ps in let d =
      first (body_of nothing) (bodies ps) in omega arith
  count_first (value z) ps kind = let e = count_from [] false (alone (body_of (value z))) ps in let d =
      first (body_of (value z)) (bodies ps) in omega arith
  count_first (target z) ps kind = let e = count_from [] false (alone (body_of (target z))) ps in let d =
      first (body_of (target z)) (bodies ps) in omega arith
  count_first (offset z) ps kind = let e = count_from [] false (alone (body_of (offset z))) ps in let d =
      first (body_of (offset z)) (bodies ps) in omega arith
  count_first (values z) ps kind = let e = count_from [] false (alone (body_of (values z))) ps in let d =
      first (body_of (values z)) (bodies ps) in omega arith
  count_first (barrier z) ps kind = let e = count_from [] false (alone (body_of (barrier z))) ps in let d =
      first (body_of (barrier z)) (bodies ps) in omega arith
  count_first fence ps kind = let e = count_from [] false (alone (body_of fence)) ps in let d =
      first (body_of fence) (bodies ps) in omega arith
  count_first (lines z) ps kind = let e = count_from [] false (alone (body_of (lines z))) ps in let d =
      first (body_of (lines z)) (bodies ps) in omega arith
  count_first (statement z) ps kind = let e = count_from [] false (alone (body_of (statement z))) ps in let d =
      first (body_of (statement z)) (bodies ps) in omega arith
  count_first (function z) ps kind = let e = count_from [] false (alone (body_of (function z))) ps in let d =
      first (body_of (function z)) (bodies ps) in omega arith
  count_first (functions z) ps kind = let e = count_from [] false (alone (body_of (functions z))) ps in let d =
      first (body_of (functions z)) (bodies ps) in omega arith

  pub arms_sum : (ps : List Piece) → B (arms_of ps) ≡ A (bodies ps)
  arms_sum [] = last ∙ sym nothing'
  arms_sum (p ∷ ps) = count_first p.what ps p.kind

first_declared : (x : ℕ) (s : Statement) (r : Statements) →
    all_declarations (also s r) x ≡ all_declarations (alone s) x + all_declarations r x
first_declared x s r = omega arith

pub arms_counted : (x : ℕ) (ps : List Piece) → arms_declarations (arms_of ps) x ≡ all_declarations (bodies ps) x
arms_counted x ps = arms_sum (λ l. all_declarations l x) (λ r. arms_declarations r x) refl (first_declared x)
    (λ a b. declarations_followed a b x) refl (λ ls o b r. refl) ps

-- ---- labels

label_by : (w : What) (rest : List ℤ) (n : ℕ) (ls : List ℤ) (o : Bool) (b : Statements) (g : List ℤ → Bool →
    Statements → Arms) → ((ls' : List ℤ) (o' : Bool) (b' : Statements) → (labels_of (g ls' o' b') ≡ ls' ++ rest) ×
    (defaults_of (g ls' o' b') ≡ (if o' then 1 else 0) + n)) →
    (labels_of (arms_by ls o b w g) ≡ ls ++ (labels_in w ++ rest)) ×
    (defaults_of (arms_by ls o b w g) ≡ (if o then 1 else 0) + ((if default_in w then 1 else 0) + n))
label_by (labelled ls' o' s) rest n ls o b g q = let e =
    (q ls' o' (alone s)).1 in (ap (λ z. ls ++ z) (q ls' o' (alone s)).0, omega arith)
label_by w rest n ls o b g q = let e =
    (q ls o (followed b (alone (body_of w)))).1 in ((q ls o (followed b (alone (body_of w)))).0, omega arith)

label_from : (ls : List ℤ) (o : Bool) (b : Statements) (ps : List Piece) →
    (labels_of (arms_from ls o b ps) ≡ ls ++ all_labels ps) ×
    (defaults_of (arms_from ls o b ps) ≡ (if o then 1 else 0) + defaults ps)
unfolding arms_from
label_from ls o b [] = (refl, omega arith)
label_from ls o b (p ∷ ps) = label_by p.what (all_labels ps) (defaults ps) ls o b (λ ls' o' b'.
    arms_from ls' o' b' ps) (λ ls' o' b'. label_from ls' o' b' ps)

label_first : (w : What) (ps : List Piece) (kind : _) →
    (labels_of (arms_of (record { kind = kind; what = w } ∷ ps)) ≡ labels_in w ++ all_labels ps) ×
    (defaults_of (arms_of (record { kind = kind; what = w } ∷ ps)) ≡ (if default_in w then 1 else 0) + defaults ps)
label_first (labelled ls o s) ps kind = label_from ls o (alone s) ps
label_first w ps kind = label_from [] false (alone (body_of w)) ps

pub arms_labels : (ps : List Piece) → (labels_of (arms_of ps) ≡ all_labels ps) ×
    (defaults_of (arms_of ps) ≡ defaults ps)
arms_labels [] = (refl, refl)
arms_labels (p ∷ ps) = label_first p.what ps p.kind
