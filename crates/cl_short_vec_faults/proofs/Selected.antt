-- A selection of one component stands at a place of vectors, and picks a component that is there.
use Rattle.std.proofs.Common.{◌≡◌, ℕ, suc, ◌<◌, nat_eq, List, [], ◌∷◌, length, Some, Bool, true, false, not, ◌&&◌}
use Rattle.std.proofs.Common.{◌||◌, if◌then◌else◌, refl, ap, sym, ◌∙◌, subst, arith}
use Rattle.std.proofs.lemmas.Bool.{false≢true}
use Rattle.std.proofs.lemmas.Bool.Decides.{nat_tests}
use Rattle.cl_tree.specs.declared.tree.Form.TheVariants as forms
use Rattle.cl_tree.specs.Syntax.{Syntax, node, none, more}
use Rattle.cl_meaning.specs.Spelling.{postfix_in}
use Rattle.cl_meaning.specs.Kinds.{is_some}
use Rattle.cl_check_sound.specs.Shape.{IsExpressionOf, selects}
use Rattle.cl_check_sound.proofs.Cases.{the_some}
use Rattle.cl_short_vec.specs.declared.types.Vector.{Vector}
use Rattle.cl_short_vec.specs.declared.kinds.Reach.{Reach}
use Rattle.cl_short_vec.specs.declared.kinds.Kind.{Kind}
use Rattle.cl_short_vec.specs.declared.kinds.Kind.TheVariants.{Vectors, Pointer, Other}
use Rattle.cl_short_vec.specs.declared.roles.Role.{Role}
use Rattle.cl_short_vec.specs.declared.roles.Role.TheVariants.{Used, Base}
use Rattle.cl_short_vec.specs.Types.{selection_in, selected, picked, vector, all_below}
use Rattle.cl_short_vec.specs.Kinds.{Names, is_vector, several, selection_of, postfix_kind}
use Rattle.cl_short_vec.specs.Marks.{mark, unmarked, marking, kind_at, kind_by, marked, marked_parts}
use Rattle.cl_short_vec.specs.Roles.{is_place, selected_role, role_of}
use Rattle.cl_short_vec.specs.Faults.{selected_in, chosen, picked_by, components_of, selects_nothing, repeats}
use Rattle.cl_short_vec.specs.Faults.{lacks_component, no_component, refusals}
use Rattle.cl_short_vec.specs.Order.{count_in}
use Rattle.cl_short_vec.specs.Scalar.{alone_in, one_selected, one_component}
use Rattle.cl_short_vec_faults.proofs.Refused.{node_none, part_none, kind_placed}
use Rattle.cl_short_vec_faults.proofs.PlainForms.{selection_some}
use Rattle.cl_short_vec_faults.proofs.Places.{AllUnder, BelowIn, selected_below, picked_under, picked_many}
use Rattle.cl_short_vec_faults.proofs.Known.{not_false}

-- what a selection of one component selects, of which vector
pub record Selected (names : Names) (w : List ℕ) (a : Syntax) : Type 0 where
  pub name : List ℕ
  pub selects' : selection_in w ≡ Some name
  pub v : Vector
  pub r : Reach
  pub front : kind_at (marked names a) ≡ Vectors v r
  pub picks : List ℕ
  pub selected' : selected v.count name ≡ Some picks
  pub one : nat_eq (length picks) 1 ≡ true
  pub none' : refusals Base (marked names a) ≡ []
  pub place : is_place (kind_at (marked names a)) ≡ true

first_false : (a b : Bool) → (a || b) ≡ false → a ≡ false
first_false true b h = absurd (false≢true (sym h))
first_false false b h = refl

-- a vector of which a component is selected
record Front (j : Kind) (name : List ℕ) : Type 0 where
  v : Vector
  r : Reach
  front : j ≡ Vectors v r
  picks : List ℕ
  selected' : selected v.count name ≡ Some picks
  one : nat_eq (length picks) 1 ≡ true

front_of : (j : Kind) (name : List ℕ) → selects_nothing j name ≡ false → is_vector (selection_of j name) ≡ false →
    Front j name
front_of (Pointer s c v) name h n = absurd (false≢true (sym h))
front_of (Other b) name h n = absurd (false≢true (sym h))
front_of (Vectors v r) name h n =
    let k = the_some (selected v.count name) (not_false (is_some (selected v.count name)) h) in record {
      v = v;
      r = r;
      front = refl;
      picks = k.0;
      selected' = k.1;
      one = by (nat_eq (length k.0) 1) (vector v.of (length k.0))
          (ap (λ o. is_vector (several v r o)) (sym k.1) ∙ n);
    }
  where
    by : (b : Bool) (u : Vector) → is_vector (if b then (Other true) else Vectors u r) ≡ false → b ≡ true
    by true u e = refl
    by false u e = absurd (false≢true (sym e))

base_place : (v : Vector) (r : Reach) (j : Kind) → j ≡ Vectors v r → (is_vector j && not (is_place j)) ≡ false →
    is_place j ≡ true
base_place v r j e h = not_false (is_place j) (ap (λ z. is_vector z && not (is_place j)) (sym e) ∙ h)

pub selected_part : (names : Names) (role : Role) (w : List ℕ) (f l : ℕ) (a : Syntax) → selects w ≡ true →
    IsExpressionOf true a → refusals role (marked names (node forms.PostfixNode w f l (more a none))) ≡ [] →
    is_vector (kind_at (marked names (node forms.PostfixNode w f l (more a none)))) ≡ false → Selected names w a
unfolding marked marked_parts kind_by no_component role_of
selected_part names role w f l a h ha r n =
    let t = node forms.PostfixNode w f l (more a none) in
    let m = marked names a in
    let j = kind_at m in
    let k = postfix_kind (selection_in w) (postfix_in w) j in
    let ms = marking m unmarked in
    let s = selection_some w h in
    let lacks : lacks_component role (Some s.0) j (components_of (mark t k ms)) ≡ false =
    ap (λ o. lacks_component role o j (components_of (mark t k ms))) (sym s.1) ∙ (node_none role t k ms r).2 in
    let x = front_of j s.0 (first_false (selects_nothing j s.0) (repeats role (components_of (mark t k ms))) lacks)
    (ap (λ o. is_vector (postfix_kind o (postfix_in w) j)) (sym s.1) ∙ n) in
    let base : selected_role (selection_in w) k ≡ Base =
    ap (λ o. selected_role o k) s.1 ∙ ap (λ b. if b then Used else Base) n in
    let none' : refusals Base m ≡ [] = subst (λ z. refusals z m ≡ []) base (part_none role t k m r) in
    record {
      name = s.0;
      selects' = s.1;
      v = x.v;
      r = x.r;
      front = x.front;
      picks = x.picks;
      selected' = x.selected';
      one = x.one;
      none' = none';
      place = base_place x.v x.r j x.front (kind_placed Base a names ha none');
    }

-- ---- the component

longer : (n : ℕ) → nat_eq (suc (suc n)) 1 ≡ true → ⊥
longer n h = let same : suc (suc n) ≡ 1 = grind (arith, nat_tests) in omega arith

alone_there : (m : ℕ) (cs : List ℕ) → nat_eq (length cs) 1 ≡ true → AllUnder m cs →
    (c : ℕ) × (alone_in cs ≡ Some c) × (c < m)
alone_there m [] h u = absurd (false≢true h)
alone_there m (c ∷ []) h u = (c, refl, u.0)
alone_there m (c ∷ (d ∷ ds)) h u = absurd (longer (length ds) h)

pub component_there : (names : Names) (w : List ℕ) (f l : ℕ) (a : Syntax) (k : Kind) (m : ℕ) →
    (x : Selected names w a) → AllUnder m (components_of (marked names a)) →
    length (components_of (marked names a)) ≡ count_in (kind_at (marked names a)) →
    (c : ℕ) × (one_component (mark (node forms.PostfixNode w f l (more a none)) k (marking (marked names a) unmarked)) ≡
    Some c) × (c < m)
unfolding components_of
component_there names w f l a k m x u e =
    let ks = components_of (marked names a) in
    let j = kind_at (marked names a) in
    let below : all_below x.v.count x.picks ≡ true =
    subst (λ o. BelowIn x.v.count o) x.selected' (selected_below x.v.count x.name) in
    let c = alone_there m (picked ks x.picks) (ap (λ n. nat_eq n 1) (picked_many ks x.picks) ∙ x.one)
    (picked_under m x.v.count ks x.picks u (e ∙ ap count_in x.front) below) in (
      c.0,
      ap (λ o. one_selected forms.PostfixNode o (picked_by o k j ks)) x.selects' ∙
          ap (λ z. alone_in (chosen (selected_in z x.name) ks)) x.front ∙
          ap (λ o. alone_in (chosen o ks)) x.selected' ∙ c.1,
      c.2,
    )
