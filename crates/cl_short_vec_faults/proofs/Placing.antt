-- Places of vectors: variables, elements, and what parentheses and selections make of them.
use Rattle.std.proofs.Common.{◌≡◌, ℕ, ◌<◌, ◌≤◌, nat_eq, List, [], ◌∷◌, length, Option, None, Some, Bool, true, false}
use Rattle.std.proofs.Common.{not}
use Rattle.std.proofs.Common.{if◌then◌else◌, refl, ap, sym, ◌∙◌, subst, arith}
use Rattle.std.proofs.lemmas.Bool.{false≢true}
use Rattle.wg_num.specs.declared.types.IntType.{IntType}
use Rattle.cl_model.specs.declared.program.Space.{Space}
use Rattle.cl_tree.specs.declared.tree.Form.TheVariants as forms
use Rattle.cl_tree.specs.Syntax.{Syntax, node, none}
use Rattle.cl_tree.specs.Nodes.{forest1}
use Rattle.cl_meaning.specs.Spelling.{name_in}
use Rattle.cl_meaning.specs.declared.kind.Reach.{Reach}
use Rattle.cl_meaning.specs.declared.kind.Reach.TheVariants as reach
use Rattle.cl_meaning.specs.declared.kind.Kind.{Kind}
use Rattle.cl_meaning.specs.declared.kind.Kind.TheVariants as kinds
use Rattle.cl_meaning.specs.declared.kind.Role.{Role}
use Rattle.cl_meaning.specs.declared.kind.Role.TheVariants as roles
use Rattle.cl_meaning.specs.Environment.{Env}
use Rattle.cl_meaning.specs.Kinds.{is_some, name_kind, kind_step}
use Rattle.cl_meaning.specs.Visible.{kind_of}
use Rattle.cl_meaning.specs.Faults.{Asked, misfits}
use Rattle.cl_check_sound.specs.Shape.{OfExpressions}
use Rattle.cl_short_vec.specs.declared.nodes.Span.{Span}
use Rattle.cl_short_vec.specs.declared.types.Vector.{Vector}
use Rattle.cl_short_vec.specs.declared.kinds.Reach as vector_reach
use Rattle.cl_short_vec.specs.declared.kinds.Reach.TheVariants.{Value, Variable, Element}
use Rattle.cl_short_vec.specs.declared.kinds.Kind as vectors
use Rattle.cl_short_vec.specs.declared.kinds.Kind.TheVariants.{Vectors, Pointer, Other}
use Rattle.cl_short_vec.specs.Types.{vector, selected}
use Rattle.cl_short_vec.specs.Kinds.{is_vector, several, selection_of}
use Rattle.cl_short_vec.specs.Nodes.{component_name}
use Rattle.cl_short_vec.specs.Marks.{Mark, mark, unmarked, kind_at}
use Rattle.cl_short_vec.specs.Roles.{is_place, is_element}
use Rattle.cl_short_vec.specs.Faults.{all_of, components_of}
use Rattle.cl_short_vec.specs.Order.{count_in, under}
use Rattle.cl_short_vec.specs.Scalar.{scalar, component_at}
use Rattle.cl_short_vec.proofs.Small.{SmallKind}
use Rattle.cl_short_vec_faults.specs.Plainly.{StandsAlike}
use Rattle.cl_short_vec_faults.specs.Law.{KindAs}
use Rattle.cl_short_vec_faults.proofs.Building.{seen, kind_here, Good}
use Rattle.cl_short_vec_faults.proofs.Points.{component_named}
use Rattle.cl_short_vec_faults.proofs.Naming.{vector_same}
use Rattle.cl_short_vec_faults.proofs.Nodes.{leaf_good, one_good, quiet_fine, Tests, tested_as}
use Rattle.cl_short_vec_faults.proofs.Made.{number_tests}
use Rattle.cl_short_vec_faults.proofs.Places.{AllUnder, all_under, all_many}
use Rattle.cl_short_vec_faults.proofs.Kinded.{some_same}
use Rattle.cl_short_vec_faults.proofs.Elements.{IsElement}

-- the plain form of a place has a kind, and each component has the same
pub record Placed (asked : Asked) (p s : Env) (m : Mark) (t : Syntax) : Type 0 where
  pub made : OfExpressions t
  pub kind : Kind
  pub plain : kind_of p t ≡ Some kind
  pub as' : KindAs (kind_at m) (Some kind)
  pub component : (c : ℕ) (at : Span) (place : Role) → c < count_in (kind_at (under m)) →
      Good asked s place (component_at c at m) kind
  pub element : is_element m ≡ true → (place : Role) → Good asked s place (scalar m) kind
  pub below : AllUnder (count_in (kind_at (under m))) (components_of m)
  pub many : length (components_of m) ≡ count_in (kind_at m)

count_small : (k : vectors.Kind) → SmallKind k → is_vector k ≡ true → count_in k ≤ 16
count_small (Vectors v r) h e = h
count_small (Pointer s c v) h e = absurd (false≢true e)
count_small (Other b) h e = absurd (false≢true e)

-- ---- variables

component_good : (asked : Asked) (s : Env) (w : List ℕ) (c : ℕ) (at : Span) (place : Role) (t : IntType) (r : Reach) →
    name_kind s (component_name (name_in w) c) ≡ Some (kinds.Number t r) →
    Good asked s place (node forms.VariableNode (component_name (name_in w) c) at.first at.last none) (kinds.Number t r)
unfolding kind_step misfits
component_good asked s w c at place t r e =
    let q = component_name (name_in w) c in
    let st : name_kind s (name_in q) ≡ Some (kinds.Number t r) = ap (name_kind s) (component_named w c) ∙ e in
    leaf_good asked s place forms.VariableNode q at.first at.last (kinds.Number t r) refl refl (record {
      known = ap (λ o. not (is_some o)) st;
      fit = refl;
      tested = tested_as place (name_kind s (name_in q)) (kinds.Number t r) st (number_tests place t r);
      counted = refl;
      passed = refl;
      assignable = refl;
      written = refl;
      ends = refl;
      rooted = refl;
      flagged = refl;
    }) st

pub variable_placed : (asked : Asked) (p s : Env) (w : List ℕ) (f l : ℕ) (k : vectors.Kind) →
    StandsAlike k (name_in w) p s → s.flags ≡ p.flags → p.flags ≡ false → is_place k ≡ true →
    Placed asked p s (mark (node forms.VariableNode w f l none) k unmarked) (node forms.VariableNode w f l none)
unfolding under components_of is_element component_at kind_step
variable_placed asked p s w f l (Vectors v Variable) h fl o e =
    let x = vector_same v p s (name_in w) h fl o in record {
      made = (refl, tt);
      kind = kinds.Number v.of (reach.Variable x.fixed);
      plain = kind_here p forms.VariableNode w f l none refl tt ∙ x.plain;
      as' = (x.fixed, refl);
      component = λ c at place b. component_good asked s w c at place v.of (reach.Variable x.fixed) (x.form c b);
      element = λ i. absurd (false≢true i);
      below = all_under (Vectors v Variable);
      many = all_many (Vectors v Variable) refl;
    }
variable_placed asked p s w f l (Vectors v Value) h fl o e = absurd h
variable_placed asked p s w f l (Vectors v (Element sp c)) h fl o e = absurd h
variable_placed asked p s w f l (Pointer sp c v) h fl o e = absurd (false≢true e)
variable_placed asked p s w f l (Other b) h fl o e = absurd (false≢true e)

-- ---- elements

pub element_placed : (asked : Asked) (p s : Env) (m : Mark) (t : Syntax) (sp : Space) (c : Bool) (v : Vector)
    (component : ℕ → Span → Syntax) (whole : Syntax) → IsElement asked p s sp c v t component whole →
    kind_at m ≡ Vectors v (Element sp c) → ((n : ℕ) (at : Span) → component_at n at m ≡ component n at) →
    scalar m ≡ whole → under m ≡ m → components_of m ≡ all_of (kind_at m) → SmallKind (kind_at m) →
    Placed asked p s m t
element_placed asked p s m t sp c v component whole x k g i u e small =
    let vector' : is_vector (kind_at m) ≡ true = ap is_vector k in
    let number' = kinds.Number v.of (reach.Element sp c x.root) in record {
      made = x.made;
      kind = number';
      plain = x.plain;
      as' = subst (λ z. KindAs z (Some number')) (sym k) (x.root, refl);
      component = λ n at place b. subst (λ z. Good asked s place z number') (sym (g n at))
          (x.at' n at place (within n (subst (λ z. n < count_in (kind_at z)) u b)
          (count_small (kind_at m) small vector')));
      element = λ y place. subst (λ z. Good asked s place z number') (sym i) (x.whole' place);
      below = subst (λ z. AllUnder (count_in (kind_at z)) (components_of m)) (sym u)
          (subst (λ z. AllUnder (count_in (kind_at m)) z) (sym e) (all_under (kind_at m)));
      many = ap length e ∙ all_many (kind_at m) vector';
    }
  where
    within : (n : ℕ) → n < count_in (kind_at m) → count_in (kind_at m) ≤ 16 → n ≤ 16
    within n a b = omega arith

-- ---- parentheses and selections

pub wrapped_good : (asked : Asked) (env : Env) (place : Role) (w : List ℕ) (f l : ℕ) (a : Syntax) (k : Kind) →
    Good asked env roles.Other a k → Tests place k → Good asked env place (node forms.ParenNode w f l (forest1 a)) k
unfolding kind_step misfits
wrapped_good asked env place w f l a k x t =
    one_good asked env place forms.ParenNode w f l k refl refl a k x
    (quiet_fine asked (seen env place forms.ParenNode w f (forest1 a) (Some k ∷ [])) refl refl t) refl

-- the kind of a place is a number
pub place_tests : (j : vectors.Kind) (k : Kind) (place : Role) → is_place j ≡ true → KindAs j (Some k) → Tests place k
place_tests (Vectors v Variable) k place e h =
    subst (λ z. Tests place z) (sym (some_same k _ h.1)) (number_tests place v.of (reach.Variable h.0))
place_tests (Vectors v (Element s c)) k place e h =
    subst (λ z. Tests place z) (sym (some_same k _ h.1)) (number_tests place v.of (reach.Element s c h.0))
place_tests (Vectors v Value) k place e h = absurd (false≢true e)
place_tests (Pointer s c v) k place e h = absurd (false≢true e)
place_tests (Other b) k place e h = absurd (false≢true e)

same_reach : (v : Vector) (n : ℕ) (r : vector_reach.Reach) (k : Option Kind) → KindAs (Vectors v r) k →
    KindAs (Vectors (vector v.of n) r) k
same_reach v n Variable k h = h
same_reach v n Value k h = h
same_reach v n (Element s c) k h = h

pub selected_as : (j : vectors.Kind) (name : List ℕ) (k : Option Kind) → KindAs j k → KindAs (selection_of j name) k
selected_as (Pointer s c v) name k h = tt
selected_as (Other b) name k h = tt
selected_as (Vectors v r) name k h = by (selected v.count name)
  where
    by : (o : Option (List ℕ)) → KindAs (several v r o) k
    by None = tt
    by (Some ks) = one (nat_eq (length ks) 1)
      where
        one : (b : Bool) → KindAs (if b then (Other true) else Vectors (vector v.of (length ks)) r) k
        one true = tt
        one false = same_reach v (length ks) r k h

-- a selection that is no vector is none of anything
pub selected_other : (j : vectors.Kind) (name : List ℕ) → is_vector (selection_of j name) ≡ false →
    selection_of j name ≡ (Other true)
selected_other (Pointer s c v) name h = refl
selected_other (Other b) name h = refl
selected_other (Vectors v r) name h = by (selected v.count name) h
  where
    by : (o : Option (List ℕ)) → is_vector (several v r o) ≡ false → several v r o ≡ (Other true)
    by None e = refl
    by (Some ks) e = one (nat_eq (length ks) 1) e
      where
        one : (b : Bool) → is_vector (if b then (Other true) else Vectors (vector v.of (length ks)) r) ≡ false →
            (if b then (Other true) else Vectors (vector v.of (length ks)) r) ≡ (Other true)
        one true g = refl
        one false g = absurd (false≢true (sym g))
