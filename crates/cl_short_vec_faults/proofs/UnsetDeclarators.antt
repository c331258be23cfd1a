-- A declarator without a star and without an initialiser, of which no node is at fault: where it stands.
use Rattle.std.proofs.Common.{◌≡◌, ℕ, suc, List, [], ◌∷◌, length, Option, None, Some, Bool, true, false, not, ◌&&◌}
use Rattle.std.proofs.Common.{◌||◌}
use Rattle.std.proofs.Common.{nat_eq, if◌then◌else◌, refl, ap, sym, ◌∙◌, subst, arith}
use Rattle.std.proofs.lemmas.Bool.{false≢true}
use Rattle.std.proofs.lemmas.Bool.Decides.{nat_tests}
use Rattle.cl_model.specs.declared.program.Space.{Space}
use Rattle.cl_model.specs.declared.program.Space.TheVariants as spaces
use Rattle.cl_tree.specs.declared.tree.Form.TheVariants as forms
use Rattle.cl_tree.specs.Syntax.{Syntax, Forest, none, more}
use Rattle.cl_meaning.specs.Spelling.{dimensions_in, is_set, is_const}
use Rattle.cl_meaning.specs.declared.types.Declared.{Declared}
use Rattle.cl_meaning.specs.declared.fault.Fault.TheVariants as faults
use Rattle.cl_meaning.specs.declared.kind.Each.TheVariants as each
use Rattle.cl_meaning.specs.declared.kind.Kind.{Kind}
use Rattle.cl_meaning.specs.declared.kind.Role.TheVariants as roles
use Rattle.cl_meaning.specs.Environment.{Env, at_unit}
use Rattle.cl_meaning.specs.Kinds.{is_some, is_number}
use Rattle.cl_meaning.specs.Declarations.{is_star, word_of, star_in, behind_star, listed, but_last, last_one, is_list}
use Rattle.cl_meaning.specs.Declarations.{Declarator, declarator_in, dims_of, or_none, each_of, allowed, lengths_in}
use Rattle.cl_meaning.specs.Declarations.{with_length, length_in, initialisers, is_length, kept_in}
use Rattle.cl_meaning.specs.Declarations.{with_declarator, most_elements}
use Rattle.cl_model.specs.Sizes.{product}
use Rattle.cl_meaning.specs.Faults.{Asked, Looked, declarator_misfits, given, is_misplaced, no_program_variable}
use Rattle.cl_meaning.specs.Faults.{is_constant_space, all_constant}
use Rattle.cl_meaning.specs.Declarations.{initial_values}
use Rattle.cl_short_vec.specs.Kinds.{space_or_private}
use Rattle.std.specs.Prelude.{nat_le}
use Rattle.cl_short_vec_faults.proofs.Building.{seen, NoFault}
use Rattle.cl_short_vec_faults.proofs.SameDeclarators.{misfits_of, misfits_by}

-- ---- what does not matter

-- the kind of its last part
pub unset_fit : (x : Declarator) → x.star ≡ None → x.init ≡ None → (o : Option Declared) (j k : Option Kind) →
    declarator_misfits o x j ≡ declarator_misfits o x k
unset_fit x es ei None j k = refl
unset_fit x es ei (Some d) j k = by j ∙ sym (by k)
  where
    plain : (b : Bool) (g : Bool) → (if b then false || (false && g) else false && (true || g)) ≡ false
    plain true g = refl
    plain false g = refl

    by : (i : Option Kind) → declarator_misfits (Some d) x i ≡ false
    by i = misfits_by d x i ∙
        (ap (λ z. misfits_of d z x.dimensions (is_list x.init) (is_some x.init) i) es ∙
        (ap (λ z. misfits_of d None x.dimensions (is_list z) (is_some z) i) ei ∙
        plain (nat_eq x.dimensions 0) (given i (λ a. not (is_number a)))))

pub starless_leaves : (env : Env) (d : Declared) (x : Declarator) → x.star ≡ None → (j k : Option Kind) →
    with_declarator env (Some d) x j ≡ with_declarator env (Some d) x k
starless_leaves env d x e j k = subst (λ z. with_declarator env (Some d) (record x { star = z }) j ≡
    with_declarator env (Some d) (record x { star = z }) k) (sym e) refl

-- ---- its parts

pub starless : (P : Forest) → star_in P ≡ None → behind_star P ≡ P
starless none e = refl
starless (more p ps) e = by (is_star p) e
  where
    by : (b : Bool) → (if b then Some (is_const (word_of p)) else None) ≡ None →
        (if b then ps else more p ps) ≡ more p ps
    by true e = absurd cc
    by false e = refl

pub unset_init : (w : List ℕ) (f : ℕ) (P : Forest) → is_set w ≡ false → (declarator_in w f P).init ≡ None
unset_init w f P e = ap (λ b. if b then last_one (listed (behind_star P)) else None) e

-- of one dimension: as many elements as the only length says
abbrev pub array_dims : List Syntax → Option (List ℕ)
array_dims xs = if nat_eq (length xs) 1 then allowed (lengths_in xs) else None

abbrev dims_by : ℕ → Bool → List Syntax → Option (List ℕ)
dims_by n set xs = if nat_eq (length (if set then but_last xs else xs)) n
    then allowed (lengths_in (if set then but_last xs else xs)) else
    (if nat_eq n 1 && is_list (if set then last_one xs else None) &&
    is_length (length (initialisers (if set then last_one xs else None)))
    then Some (length (initialisers (if set then last_one xs else None)) ∷ []) else None)

pub array_lengths : (w : List ℕ) (f : ℕ) (P : Forest) → dimensions_in w ≡ 1 → is_set w ≡ false → star_in P ≡ None →
    dims_of (declarator_in w f P) ≡ array_dims (listed P)
array_lengths w f P n e s =
    ap (λ z. dims_by z (is_set w) (listed (behind_star P))) n ∙
    (ap (λ z. dims_by 1 z (listed (behind_star P))) e ∙ ap (λ z. dims_by 1 false (listed z)) (starless P s))

one_length : (n : ℕ) (o : Option ℕ) → each_of (or_none (allowed (with_length o (Some [])))) ≡ each.Element
one_length n None = refl
one_length n (Some k) = by (nat_le (length (k ∷ [])) 3 && nat_le (product (k ∷ [])) most_elements)
  where
    by : (b : Bool) → each_of (or_none (if b then Some (k ∷ []) else None)) ≡ each.Element
    by true = refl
    by false = refl

pub several : (n : ℕ) → nat_eq (suc (suc n)) 1 ≡ false
several n = grind (arith, nat_tests)

array_each : (xs : List Syntax) → each_of (or_none (array_dims xs)) ≡ each.Element
array_each [] = refl
array_each (t ∷ []) = one_length 0 (length_in t)
array_each (t ∷ (u ∷ us)) = ap (λ b. each_of (or_none (if b then allowed (lengths_in (t ∷ (u ∷ us))) else None)))
    (several (length us))

pub one_element : (w : List ℕ) (f : ℕ) (P : Forest) → dimensions_in w ≡ 1 → is_set w ≡ false → star_in P ≡ None →
    each_of (or_none (dims_of (declarator_in w f P))) ≡ each.Element
one_element w f P n e s = ap (λ z. each_of (or_none z)) (array_lengths w f P n e s) ∙ array_each (listed P)

-- ---- where it stands

always : (a b c : Bool) → (a || (b || (true || c))) ≡ true
always true b c = refl
always false true c = refl
always false false c = refl

and_true : (a b : Bool) → b ≡ true → (a && b) ≡ false → a ≡ false
and_true true b e h = absurd (false≢true (sym h ∙ e))
and_true false b e h = refl

module _ (asked : Asked) (p : Env) (w : List ℕ) (f : ℕ) (P : Forest) (ks : List (Option Kind)) (d : Declared)
    (typed : p.declared ≡ Some d)
    (no_fault : NoFault asked (seen p roles.Other forms.DeclaratorNode w f P ks))
    (star : (declarator_in w f P).star ≡ None) where
  abbrev x : Declarator
  x = declarator_in w f P

  abbrev n : Looked
  n = seen p roles.Other forms.DeclaratorNode w f P ks

  -- in a function
  pub unset_inside : x.init ≡ None → at_unit p ≡ false
  unset_inside e = and_true (at_unit p) (given p.declared (λ d. no_program_variable d x))
      (ap (λ z. given z (λ d. no_program_variable d x)) typed ∙
      (ap (λ z. not (is_constant_space d.space) || (is_some x.star || (not (is_some z) ||
      not (all_constant (initial_values z))))) e ∙ always (not (is_constant_space d.space)) (is_some x.star) false))
      (no_fault faults.ProgramVariable)

  -- and an array where its space word says
  pub unset_kept : at_unit p ≡ false → kept_in p d ≡ space_or_private d.space
  unset_kept u = by d.space (ap (λ z. not (is_some z) && is_misplaced n x d.space) (sym star) ∙
      (ap (λ z. given z (λ d. not (is_some x.star) && is_misplaced n x d.space)) (sym typed) ∙
      no_fault faults.LocalMisplaced))
    where
      outside : {A : Type 0} → not (at_unit p) ≡ false → A
      outside h = absurd (false≢true (sym h ∙ ap not u))

      by : (o : Option Space) → is_misplaced n x o ≡ false → kept_in p (record d { space = o }) ≡ space_or_private o
      by None h = ap (λ b. if b then spaces.Constant else spaces.Private) u
      by (Some spaces.Local) h = ap (λ b. if b then spaces.Constant else spaces.Local) u
      by (Some spaces.Private) h = ap (λ b. if b then spaces.Constant else spaces.Private) u
      by (Some spaces.Global) h = outside h
      by (Some spaces.Constant) h = outside h
