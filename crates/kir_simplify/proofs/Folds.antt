-- The walk that folds lines: what is counted, what is known, and what becomes of a line.
use Rattle.std.proofs.Common.{◌≡◌, ℕ, zero, suc, ◌+◌, ◌<◌, ◌≤◌, pos, List, [], ◌∷◌, ◌++◌, append_assoc, length, get_or}
use Rattle.std.proofs.Common.{map, drop, refl, ap, ap₂, sym, ◌∙◌, arith, Global, Option, Some, None, if◌then◌else◌}
use Rattle.std.proofs.Common.{slice_get, ⊎_elim}
use Rattle.std.specs.Prelude.{◌&&◌, ◌||◌, nat_eq}
use Rattle.std.specs.Prelude.{Bool as Test, true, false}
use Rattle.std.specs.declared.vec.Vec.{Vec}
use mathlib.Core.Path.{fun_ext}
use Rattle.std.proofs.lemmas.List.{drop_all, append-nil}
use Rattle.std.proofs.lemmas.Option.{same_Some, none-some}
use Rattle.std.proofs.lemmas.Bool.{eqb-true, ne_eqb, eq-eqb}
use Rattle.std.proofs.lemmas.Bool.Decides.{eqb_tells}
use Rattle.cl_model.specs.Steps.{nth}
use Rattle.cl_model.specs.declared.program.VarKind.{VarKind}
use Rattle.kir.specs.declared.line.Atom.{Atom}
use Rattle.kir.specs.declared.line.Line.{Line}
use Rattle.kir.specs.declared.line.Line.TheVariants as line
use Rattle.kir.specs.Tree.{Work, Lines, NoLine, SetThen, IfThen, LoopThen, Kernel, joined_to}
use Rattle.kir.specs.Listed.{line_before, lines_in, lines_of, work_of}
use Rattle.kir.proofs.Firsts.{first_left}
use Rattle.kir.proofs.Rows.{if_listed, loop_listed}
use Rattle.kir_simplify.specs.Reading.{sets_in, up_to_two}
use Rattle.kir_simplify.specs.Simple.{is_plain, is_set_once}
use Rattle.kir_simplify.specs.Passes.{Known, learned, learnt, known_atom, known_work, settled_work}
use Rattle.kir_simplify.specs.Passes.{nothing_known, copied, constant_value, or_offset, with_offsets, holds_offset}
use Rattle.kir_simplify.specs.Passes.{offsets_of, folded, folded_of}
use Rattle.kir_simplify.specs.Tables.{known_where, listed, is_one_at, plain_of, put_known, unlearned, offset_of_line}
use Rattle.kir_simplify.specs.Offsets.{is_offset}
use Rattle.kir_simplify.specs.declared.settling.Learned.{Learned}

-- ---- lists

pub map_step : {A B : Type 0} (f : A → B) (made longer : List B) (xs : List A) (i : ℕ) (x : A) (y : B) →
    i < length xs → x ≡ get_or xs i x → y ≡ f x → longer ≡ made ++ y ∷ [] → made ++ map f (drop i xs) ≡ map f xs →
    longer ++ map f (drop (i + 1) xs) ≡ map f xs
map_step f made longer xs i x y lt is e l same =
    ap (λ z. z ++ map f (drop (i + 1) xs)) l ∙
    (append_assoc made (y ∷ []) (map f (drop (i + 1) xs)) ∙
    (ap (λ z. made ++ z ∷ map f (drop (i + 1) xs)) e ∙
    (ap (λ z. made ++ map f z) (sym (first_left xs i x lt is)) ∙ same)))

pub map_end : {A B : Type 0} (f : A → B) (made : List B) (xs : List A) (i : ℕ) → length xs ≤ i →
    made ++ map f (drop i xs) ≡ map f xs → made ≡ map f xs
map_end f made xs i done same =
    sym (append-nil made) ∙ (sym (ap (λ z. made ++ map f z) (drop_all i xs done)) ∙ same)

-- ---- counting

sets_first : (c : ℕ) (l : Line) (rest : Lines) →
    sets_in c (line_before l rest) ≡ sets_in c (line_before l NoLine) + sets_in c rest
sets_first c (line.Set to w) rest = omega arith
sets_first c (line.Load site to element root index) rest = omega arith
sets_first c (line.Store site element root index from) rest = omega arith
sets_first c (line.Clear array) rest = omega arith
sets_first c (line.If' site test _ chosen _ other) rest =
    let a = sets_in c (lines_in chosen) in
    let b = sets_in c (lines_in other) in
    thrice a b (sets_in c rest)
  where
    thrice : (a b r : ℕ) → a + (b + r) ≡ (a + (b + 0)) + r
    thrice a b r = omega arith
sets_first c (line.Loop' site first _ test answer _ body) rest =
    thrice (sets_in c (lines_in test)) (sets_in c (lines_in body)) (sets_in c rest)
  where
    thrice : (a b r : ℕ) → a + (b + r) ≡ (a + (b + 0)) + r
    thrice a b r = omega arith
sets_first c (line.Barrier site) rest = omega arith

pub count_step : (old mid new : List ℕ) (ls : List Line) (i : ℕ) (l : Line) → i < length ls → l ≡ get_or ls i l →
    ((c : ℕ) → up_to_two (get_or new c 0) ≡ up_to_two (sets_in c (line_before l NoLine) + get_or mid c 0)) →
    ((c : ℕ) → up_to_two (sets_in c (lines_of (drop i ls)) + get_or mid c 0) ≡
    up_to_two (sets_in c (lines_of ls) + get_or old c 0)) →
    (c : ℕ) → up_to_two (sets_in c (lines_of (drop (i + 1) ls)) + get_or new c 0) ≡
    up_to_two (sets_in c (lines_of ls) + get_or old c 0)
count_step old mid new ls i l lt is one so_far c =
    let first = ap (λ xs. sets_in c (lines_of xs)) (first_left ls i l lt is) ∙
    sets_first c l (lines_of (drop (i + 1) ls)) in
    swapped _ _ _ _ _ _ (one c) first (so_far c)
  where
    swapped : (r n s m f t : ℕ) → up_to_two n ≡ up_to_two (s + m) → f ≡ s + r → up_to_two (f + m) ≡ up_to_two t →
        up_to_two (r + n) ≡ up_to_two t
    swapped r n s m f t e g h = omega (arith, e, g, h)

pub count_end : (old new : List ℕ) (ls : List Line) (i : ℕ) → length ls ≤ i →
    ((c : ℕ) → up_to_two (sets_in c (lines_of (drop i ls)) + get_or new c 0) ≡
    up_to_two (sets_in c (lines_of ls) + get_or old c 0)) →
    (c : ℕ) → up_to_two (get_or new c 0) ≡ up_to_two (sets_in c (lines_of ls) + get_or old c 0)
count_end old new ls i done h c =
    none _ _ (ap (λ xs. up_to_two (sets_in c (lines_of xs) + get_or new c 0)) (sym (drop_all i ls done)) ∙ h c)
  where
    none : (n t : ℕ) → up_to_two (0 + n) ≡ t → up_to_two n ≡ t
    none n t e = omega (arith, e)

pub if_counted : (l : Line) (site : ℕ) (test : Atom) (chosen other : Vec Line Global) (old mid new : List ℕ) →
    l ≡ line.If site test chosen other →
    ((c : ℕ) → up_to_two (get_or mid c 0) ≡ up_to_two (sets_in c (lines_of chosen.items) + get_or old c 0)) →
    ((c : ℕ) → up_to_two (get_or new c 0) ≡ up_to_two (sets_in c (lines_of other.items) + get_or mid c 0)) →
    (c : ℕ) → up_to_two (get_or new c 0) ≡ up_to_two (sets_in c (line_before l NoLine) + get_or old c 0)
if_counted l site test chosen other old mid new e a b c =
    both _ _ _ _ _ (a c) (b c) ∙ sym (ap (λ x. up_to_two (x + get_or old c 0))
    (ap (λ x. sets_in c (line_before x NoLine)) e ∙ ap (sets_in c) (if_listed site test chosen other NoLine)))
  where
    both : (m n s t o : ℕ) → up_to_two m ≡ up_to_two (s + o) → up_to_two n ≡ up_to_two (t + m) →
        up_to_two n ≡ up_to_two ((s + (t + 0)) + o)
    both m n s t o e f = omega (arith, e, f)

pub loop_counted : (l : Line) (site : ℕ) (first : Test) (test : Vec Line Global) (answer : Atom)
    (body : Vec Line Global) (old mid new : List ℕ) → l ≡ line.Loop site first test answer body →
    ((c : ℕ) → up_to_two (get_or mid c 0) ≡ up_to_two (sets_in c (lines_of test.items) + get_or old c 0)) →
    ((c : ℕ) → up_to_two (get_or new c 0) ≡ up_to_two (sets_in c (lines_of body.items) + get_or mid c 0)) →
    (c : ℕ) → up_to_two (get_or new c 0) ≡ up_to_two (sets_in c (line_before l NoLine) + get_or old c 0)
loop_counted l site first test answer body old mid new e a b c =
    both _ _ _ _ _ (a c) (b c) ∙ sym (ap (λ x. up_to_two (x + get_or old c 0))
    (ap (λ x. sets_in c (line_before x NoLine)) e ∙ ap (sets_in c) (loop_listed site first test answer body NoLine)))
  where
    both : (m n s t o : ℕ) → up_to_two m ≡ up_to_two (s + o) → up_to_two n ≡ up_to_two (t + m) →
        up_to_two n ≡ up_to_two ((s + (t + 0)) + o)
    both m n s t o e f = omega (arith, e, f)

pub all_counted : (new : List ℕ) (zeros : List ℕ) (lines : Lines) → ((c : ℕ) → get_or zeros c 0 ≡ 0) →
    ((c : ℕ) → up_to_two (get_or new c 0) ≡ up_to_two (sets_in c lines + get_or zeros c 0)) →
    (c : ℕ) → up_to_two (get_or new c 0) ≡ up_to_two (sets_in c lines)
all_counted new zeros lines z h c = none _ _ _ (h c) (z c)
  where
    none : (n s o : ℕ) → up_to_two n ≡ up_to_two (s + o) → o ≡ 0 → up_to_two n ≡ up_to_two s
    none n s o e f = omega (arith, e, f)

-- a count that is one
pub same_one : (n s : ℕ) → up_to_two n ≡ up_to_two s → nat_eq n 1 ≡ nat_eq s 1
same_one n s e =
    ⊎_elim (λ h. one h.0 h.1) (λ h. other h.0 h.1) (eqb_tells n 1)
  where
    one : nat_eq n 1 ≡ true → n ≡ 1 → nat_eq n 1 ≡ nat_eq s 1
    one t q = t ∙ sym (eq-eqb s 1 (omega (arith, e, q)))

    other : nat_eq n 1 ≡ false → (n ≡ 1 → ⊥) → nat_eq n 1 ≡ nat_eq s 1
    other t q = t ∙ sym (ne_eqb s 1 (λ r. q (omega (arith, e, r))))

-- which cells hold offsets, by such counts
pub offsets_found : (found : ℕ → Test) (sets seen : List ℕ) (kinds own : List VarKind) (ls lines body : List Line) →
    ((c : ℕ) → found c ≡ holds_offset (is_one_at seen) own c (lines_of lines)) → seen ≡ sets → own ≡ kinds →
    lines ≡ body → ((c : ℕ) → up_to_two (get_or sets c 0) ≡ up_to_two (sets_in c (lines_of ls))) → ls ≡ body → (c : ℕ)
    → found c ≡ holds_offset (λ n. nat_eq (sets_in n (lines_of body)) 1) kinds c (lines_of body)
offsets_found found sets seen kinds own ls lines body h es ek el counted eb c =
    h c ∙
    (ap (λ (xs : List ℕ). holds_offset (is_one_at xs) own c (lines_of lines)) es ∙
    (ap (λ (ks : List VarKind). holds_offset (is_one_at sets) ks c (lines_of lines)) ek ∙
    (ap (λ (b : List Line). holds_offset (is_one_at sets) kinds c (lines_of b)) el ∙
    ap (λ (once : ℕ → Test). holds_offset once kinds c (lines_of body))
    (fun_ext (λ n. same_one _ _ (counted n ∙ ap (λ (b : List Line). up_to_two (sets_in n (lines_of b))) eb))))))

-- ---- what is known

nothing_learnt : (once : ℕ → Test) (known : Known) (to : ℕ) (work : Work) → (once to && is_plain work) ≡ false →
    (c : ℕ) → known c ≡ learnt once known to work c
nothing_learnt once known to work e c =
    sym (ap (λ (b : Test). (if b then learned known to (copied work) else known) c) e)

and_none : (a b : Test) → b ≡ false → (a && b) ≡ false
and_none true b e = e
and_none false b e = refl

plain_none : (work : Work) (b : Test) → is_plain work ≡ b → (if b then Some (copied work) else None) ≡ None → b ≡ false
plain_none work true e h = absurd (none-some _ (sym h))
plain_none work false e h = refl

plain_some : (work : Work) (a : Atom) (b : Test) → is_plain work ≡ b →
    (if b then Some (copied work) else None) ≡ Some a → (b ≡ true) × (copied work ≡ a)
plain_some work a true e h = (refl, same_Some _ a h)
plain_some work a false e h = absurd (none-some a h)

pub learnt_none : (once : ℕ → Test) (known : Known) (to : ℕ) (work : Work) → plain_of work ≡ None →
    (c : ℕ) → known c ≡ learnt once known to work c
learnt_none once known to work h =
    nothing_learnt once known to work (and_none (once to) (is_plain work) (plain_none work (is_plain work) refl h))

pub learnt_not : (once : ℕ → Test) (known : Known) (to : ℕ) (work : Work) → once to ≡ false →
    (c : ℕ) → known c ≡ learnt once known to work c
learnt_not once known to work h = nothing_learnt once known to work (ap (λ b. b && is_plain work) h)

pub learnt_some : (once : ℕ → Test) (known new : Known) (to : ℕ) (work : Work) (a : Atom) → once to ≡ true →
    plain_of work ≡ Some a → ((c : ℕ) → new c ≡ learned known to a c) → (c : ℕ) → new c ≡ learnt once known to work c
learnt_some once known new to work a o h n c =
    let p = plain_some work a (is_plain work) refl h in
    let t : (once to && is_plain work) ≡ true = ap₂ (λ x y. x && y) o p.0 in
    n c ∙ (ap (λ x. learned known to x c) (sym p.1) ∙
    sym (ap (λ (b : Test). (if b then learned known to (copied work) else known) c) t))

-- ---- arguments

pub nth_none : (args : List Atom) (n : ℕ) → slice_get args n ≡ None → pos 0 ≡ nth (map constant_value args) n
nth_none [] n h = refl
nth_none (a ∷ args) zero h = absurd (none-some a (sym h))
nth_none (a ∷ args) (suc n) h = nth_none args n h

pub nth_some : (args : List Atom) (n : ℕ) (a : Atom) → slice_get args n ≡ Some a →
    constant_value a ≡ nth (map constant_value args) n
nth_some [] n a h = absurd (none-some a h)
nth_some (b ∷ args) zero a h = ap constant_value (sym (same_Some b a h))
nth_some (b ∷ args) (suc n) a h = nth_some args n a h

-- ---- offsets

-- the cell is this one, where there is one
abbrev is_this : ℕ → Option ℕ → Test
is_this c None = false
is_this c (Some d) = nat_eq c d

holds_first : (once : ℕ → Test) (kinds : List VarKind) (c : ℕ) (l : Line) (rest : Lines) →
    holds_offset once kinds c (line_before l rest) ≡
    (is_this c (offset_of_line once kinds l) || holds_offset once kinds c rest)
holds_first once kinds c (line.Set to w) rest = by_test (once to && is_offset kinds (work_of w))
  where
    and_true : (t : Test) → (t && true) ≡ t
    and_true true = refl
    and_true false = refl

    and_false : (t : Test) → (t && false) ≡ false
    and_false true = refl
    and_false false = refl

    by_test : (p : Test) →
        ((nat_eq c to && p) || holds_offset once kinds c rest) ≡
        (is_this c (if p then Some to else None) || holds_offset once kinds c rest)
    by_test true = ap (λ b. b || holds_offset once kinds c rest) (and_true (nat_eq c to))
    by_test false = ap (λ b. b || holds_offset once kinds c rest) (and_false (nat_eq c to))
holds_first once kinds c (line.Load site to element root index) rest = refl
holds_first once kinds c (line.Store site element root index from) rest = refl
holds_first once kinds c (line.Clear array) rest = refl
holds_first once kinds c (line.If' site test _ chosen _ other) rest = refl
holds_first once kinds c (line.Loop' site first _ test answer _ body) rest = refl
holds_first once kinds c (line.Barrier site) rest = refl

-- what is marked so far, and what the lines hold that are left
module _ (once : ℕ → Test) (kinds : List VarKind) (ls : List Line) where
  abbrev pub Marked : List Test → ℕ → Type 0
  Marked marks i = (c : ℕ) → (listed marks c || holds_offset once kinds c (lines_of (drop i ls))) ≡
      holds_offset once kinds c (lines_of ls)

  holds_next : (i c : ℕ) (l : Line) → i < length ls → l ≡ get_or ls i l →
      holds_offset once kinds c (lines_of (drop i ls)) ≡
      (is_this c (offset_of_line once kinds l) || holds_offset once kinds c (lines_of (drop (i + 1) ls)))
  holds_next i c l lt is =
      ap (λ xs. holds_offset once kinds c (lines_of xs)) (first_left ls i l lt is) ∙
      holds_first once kinds c l (lines_of (drop (i + 1) ls))

  pub offsets_skip : (i : ℕ) (marks : List Test) (l : Line) → i < length ls → l ≡ get_or ls i l →
      offset_of_line once kinds l ≡ None → Marked marks i → Marked marks (i + 1)
  offsets_skip i marks l lt is none same c =
      ap (λ b. listed marks c || b) (sym (holds_next i c l lt is ∙
      ap (λ o. is_this c o || holds_offset once kinds c (lines_of (drop (i + 1) ls))) none)) ∙ same c

  pub offsets_mark : (i : ℕ) (marks more : List Test) (l : Line) (cell : ℕ) → i < length ls → l ≡ get_or ls i l →
      offset_of_line once kinds l ≡ Some cell →
      ((c : ℕ) → listed more c ≡ (nat_eq c cell || listed marks c)) → Marked marks i → Marked more (i + 1)
  offsets_mark i marks more l cell lt is some one same c =
      let left = holds_offset once kinds c (lines_of (drop (i + 1) ls)) in
      ap (λ b. b || left) (one c) ∙ (swapped (nat_eq c cell) (listed marks c) left ∙
      (ap (λ b. listed marks c || b) (sym (holds_next i c l lt is ∙ ap (λ o. is_this c o || left) some)) ∙ same c))
    where
      swapped : (a b d : Test) → ((a || b) || d) ≡ (b || (a || d))
      swapped true true d = refl
      swapped true false d = refl
      swapped false b d = refl

  pub offsets_done : (i : ℕ) (marks : List Test) → length ls ≤ i → Marked marks i → (c : ℕ) →
      listed marks c ≡ holds_offset once kinds c (lines_of ls)
  offsets_done i marks done same c =
      no_more (listed marks c) ∙
      (ap (λ xs. listed marks c || holds_offset once kinds c (lines_of xs)) (sym (drop_all i ls done)) ∙ same c)
    where
      no_more : (b : Test) → b ≡ (b || false)
      no_more true = refl
      no_more false = refl

-- ---- what is known in a loop and outside

-- behind a line that sets a cell
pub learnt_where : (once offsets : ℕ → Test) (in_loop : Test) (known new : Known) (to : ℕ) (work : Work) →
    ((c : ℕ) → new c ≡ learnt once known to work c) → (c : ℕ) →
    known_where in_loop offsets new c ≡ learnt once (known_where in_loop offsets known) to work c
learnt_where once offsets false known new to work h c = h c
learnt_where once offsets true known new to work h c =
    ap (λ o. or_offset o (offsets c)) (h c) ∙ by_test (once to && is_plain work)
  where
    by_cell : (t : Test) → or_offset (if t then Some (copied work) else known c) (offsets c) ≡
        (if t then Some (copied work) else or_offset (known c) (offsets c))
    by_cell true = refl
    by_cell false = refl

    by_test : (b : Test) → or_offset ((if b then learned known to (copied work) else known) c) (offsets c) ≡
        (if b then learned (with_offsets offsets known) to (copied work) else with_offsets offsets known) c
    by_test true = by_cell (nat_eq c to)
    by_test false = refl

pub same_where : (offsets : ℕ → Test) (in_loop : Test) (known new : Known) → ((c : ℕ) → new c ≡ known c) → (c : ℕ) →
    known_where in_loop offsets new c ≡ known_where in_loop offsets known c
same_where offsets in_loop known new h c = ap (λ (k : Known). known_where in_loop offsets k c) (fun_ext h)

-- a loop in a loop knows no more
pub inside_where : (offsets : ℕ → Test) (in_loop : Test) (known : Known) (c : ℕ) →
    with_offsets offsets known c ≡ with_offsets offsets (known_where in_loop offsets known) c
inside_where offsets false known c = refl
inside_where offsets true known c = by_case (known c) (offsets c)
  where
    by_case : (o : Option Atom) (b : Test) → or_offset o b ≡ or_offset (or_offset o b) b
    by_case (Some a) b = refl
    by_case None true = refl
    by_case None false = refl

-- ---- lines

pub set_folded : (once : ℕ → Test) (os : ℕ → Test) (known new : Known) (to : ℕ) (work made : Work) →
    made ≡ settled_work (known_work known work) → ((c : ℕ) → new c ≡ learnt once known to made c) → (rest : Lines) →
    SetThen to made (folded once os new rest) ≡ folded once os known (SetThen to work rest)
set_folded once os known new to work made e h rest =
    ap₂ (λ (w : Work) (k : Known). SetThen to w (folded once os k rest)) e
    (fun_ext h ∙ ap (learnt once known to) e)

if_folded : (once : ℕ → Test) (os : ℕ → Test) (known : Known) (l : Line) (site : ℕ) (test test' : Atom)
    (chosen other : Vec Line Global) (made ys ns : Lines) → l ≡ line.If site test chosen other →
    test' ≡ known_atom known test → ys ≡ folded once os known (lines_of chosen.items) →
    ns ≡ folded once os known (lines_of other.items) → (rest : Lines) →
    joined_to made (IfThen site test' ys ns (folded once os known rest)) ≡
    joined_to made (folded once os known (line_before l rest))
if_folded once os known l site test test' chosen other made ys ns e et ey en rest =
    ap (joined_to made) (ap (λ t. IfThen site t ys ns (folded once os known rest)) et ∙
    (ap₂ (λ a b. IfThen site (known_atom known test) a b (folded once os known rest)) ey en ∙
    sym (ap (λ x. folded once os known (line_before x rest)) e ∙
    ap (folded once os known) (if_listed site test chosen other rest))))

loop_folded : (once : ℕ → Test) (os : ℕ → Test) (known : Known) (l : Line) (site : ℕ) (first : Test)
    (test : Vec Line Global) (answer answer' : Atom) (body : Vec Line Global) (made ts bs : Lines) →
    l ≡ line.Loop site first test answer body → answer' ≡ known_atom (with_offsets os known) answer →
    ts ≡ folded once os (with_offsets os known) (lines_of test.items) →
    bs ≡ folded once os (with_offsets os known) (lines_of body.items) → (rest : Lines) →
    joined_to made (LoopThen site first ts answer' bs (folded once os known rest)) ≡
    joined_to made (folded once os known (line_before l rest))
loop_folded once os known l site first test answer answer' body made ts bs e ea et eb rest =
    ap (joined_to made) (ap (λ a. LoopThen site first ts a bs (folded once os known rest)) ea ∙
    (ap₂ (λ x y. LoopThen site first x (known_atom (with_offsets os known) answer) y
    (folded once os known rest)) et eb ∙
    sym (ap (λ x. folded once os known (line_before x rest)) e ∙
    ap (folded once os known) (loop_listed site first test answer body rest))))

-- one line on, where what is known may change
pub fold_step : (walk next : Lines → Lines) (made longer all : Lines) (ls : List Line) (i : ℕ) (l : Line) →
    i < length ls → l ≡ get_or ls i l →
    ((rest : Lines) → joined_to longer (next rest) ≡ joined_to made (walk (line_before l rest))) →
    joined_to made (walk (lines_of (drop i ls))) ≡ all → joined_to longer (next (lines_of (drop (i + 1) ls))) ≡ all
fold_step walk next made longer all ls i l lt is onto same =
    onto (lines_of (drop (i + 1) ls)) ∙
    (ap (λ x. joined_to made (walk (lines_of x))) (sym (first_left ls i l lt is)) ∙ same)

-- ---- what was learned, forgotten

unlearned_snoc : (ls : List Learned) (l : Learned) (known : Known) (c : ℕ) →
    unlearned (ls ++ l ∷ []) known c ≡ unlearned ls (put_known known l.cell l.before) c
unlearned_snoc [] l known c = refl
unlearned_snoc (m ∷ ls) l known c =
    ap (λ (x : Option Atom). if nat_eq c m.cell then m.before else x) (unlearned_snoc ls l known c)

unlearned_same : (ls : List Learned) (known new : Known) → ((c : ℕ) → new c ≡ known c) → (c : ℕ) →
    unlearned ls new c ≡ unlearned ls known c
unlearned_same ls known new h c = ap (λ (k : Known). unlearned ls k c) (fun_ext h)

put_again : (known : Known) (to : ℕ) (a : Atom) (c : ℕ) → put_known (learned known to a) to (known to) c ≡ known c
put_again known to a c = by_cell (nat_eq c to) refl
  where
    by_cell : (t : Test) → nat_eq c to ≡ t →
        (if t then known to else (if t then Some a else known c)) ≡ known c
    by_cell true e = ap known (sym (eqb-true c to e))
    by_cell false e = refl

-- one more was learned
pub noted : (ls longer : List Learned) (l : Learned) (known new : Known) (to : ℕ) (a : Atom) → longer ≡ ls ++ l ∷ [] →
    l.cell ≡ to → l.before ≡ known to → ((c : ℕ) → new c ≡ learned known to a c) → (c : ℕ) →
    unlearned longer new c ≡ unlearned ls known c
noted ls longer l known new to a e cell before h c =
    ap (λ x. unlearned x new c) e ∙ (unlearned_snoc ls l new c ∙
    unlearned_same ls known (put_known new l.cell l.before) again c)
  where
    again : (c : ℕ) → put_known new l.cell l.before c ≡ known c
    again c =
        ap₂ (λ (x : ℕ) (o : Option Atom). put_known new x o c) cell before ∙
        (ap (λ (k : Known). put_known k to (known to) c) (fun_ext h) ∙ put_again known to a c)

-- the last one is forgotten
pub forgets_last : (ls shorter : List Learned) (l : Learned) (known new all : Known) → ls ≡ shorter ++ l ∷ [] →
    ((c : ℕ) → new c ≡ put_known known l.cell l.before c) → ((c : ℕ) → unlearned ls known c ≡ all c) → (c : ℕ) →
    unlearned shorter new c ≡ all c
forgets_last ls shorter l known new all e h same c =
    unlearned_same shorter (put_known known l.cell l.before) new h c ∙
    (sym (unlearned_snoc shorter l known c) ∙ (ap (λ x. unlearned x known c) (sym e) ∙ same c))

-- lines inside leave what is known
pub kept_known : (ls : List Learned) (known mid new : Known) → ((c : ℕ) → mid c ≡ known c) →
    ((c : ℕ) → new c ≡ mid c) → (c : ℕ) → unlearned ls new c ≡ unlearned ls known c
kept_known ls known mid new m n = unlearned_same ls known new (λ c. n c ∙ m c)

pub if_folded_on : (once : ℕ → Test) (os : ℕ → Test) (known mid new : Known) (l : Line) (site : ℕ) (test test' : Atom)
    (chosen other : Vec Line Global) (made ys ns : Lines) → ((c : ℕ) → mid c ≡ known c) →
    ((c : ℕ) → new c ≡ mid c) → l ≡ line.If site test chosen other →
    test' ≡ known_atom known test → ys ≡ folded once os known (lines_of chosen.items) →
    ns ≡ folded once os mid (lines_of other.items) → (rest : Lines) →
    joined_to made (IfThen site test' ys ns (folded once os new rest)) ≡
    joined_to made (folded once os known (line_before l rest))
if_folded_on once os known mid new l site test test' chosen other made ys ns m n e et ey en rest =
    ap (λ (k : Known). joined_to made (IfThen site test' ys ns (folded once os k rest))) (fun_ext (λ c. n c ∙ m c)) ∙
    if_folded once os known l site test test' chosen other made ys ns e et ey
    (en ∙ ap (λ (k : Known). folded once os k (lines_of other.items)) (fun_ext m)) rest

pub loop_folded_on : (once : ℕ → Test) (os : ℕ → Test) (known inside mid new : Known) (l : Line) (site : ℕ)
    (first : Test) (test : Vec Line Global) (answer answer' : Atom) (body : Vec Line Global) (made ts bs : Lines) →
    ((c : ℕ) → inside c ≡ with_offsets os known c) → ((c : ℕ) → mid c ≡ inside c) → ((c : ℕ) → new c ≡ known c) →
    l ≡ line.Loop site first test answer body → answer' ≡ known_atom inside answer →
    ts ≡ folded once os inside (lines_of test.items) → bs ≡ folded once os mid (lines_of body.items) →
    (rest : Lines) →
    joined_to made (LoopThen site first ts answer' bs (folded once os new rest)) ≡
    joined_to made (folded once os known (line_before l rest))
loop_folded_on once os known inside mid new l site first test answer answer' body made ts bs d m n e ea et eb rest =
    ap (λ (k : Known). joined_to made (LoopThen site first ts answer' bs (folded once os k rest))) (fun_ext n) ∙
    loop_folded once os known l site first test answer answer' body made ts bs e
    (ea ∙ ap (λ (k : Known). known_atom k answer) (fun_ext d))
    (et ∙ ap (λ (k : Known). folded once os k (lines_of test.items)) (fun_ext d))
    (eb ∙ ap (λ (k : Known). folded once os k (lines_of body.items)) (fun_ext (λ c. m c ∙ d c))) rest

pub body_folded : (kernel : Kernel) (once offsets : ℕ → Test) (known : Known) (body : Lines) →
    ((c : ℕ) → once c ≡ is_set_once kernel c) → ((c : ℕ) → offsets c ≡ offsets_of kernel c) →
    ((c : ℕ) → known c ≡ None) → body ≡ folded once offsets known kernel.body → body ≡ (folded_of kernel).body
body_folded kernel once offsets known body s o k e =
    e ∙ (ap₂ (λ (l : ℕ → Test) (n : Known). folded once l n kernel.body) (fun_ext o) (fun_ext k) ∙
    ap (λ (one : ℕ → Test). folded one (offsets_of kernel) nothing_known kernel.body) (fun_ext s))
