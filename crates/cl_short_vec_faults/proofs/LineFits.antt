-- What is known of the leaves of a vector value whose plain form is at fault at no node, where nothing is refused.
use Rattle.std.proofs.Common.{◌≡◌, ℕ, zero, suc, ◌+◌, ◌≤◌, ◌<◌, Bool, true, false, ◌&&◌, List, [], ◌∷◌, map}
use Rattle.std.proofs.Common.{Option, Some, None, if◌then◌else◌, refl, sym, ◌∙◌, subst, arith}
use Rattle.std.proofs.lemmas.Bool.{false≢true}
use Rattle.wg_num.specs.declared.types.IntType.{IntType}
use Rattle.cl_model.specs.Lists.{Each}
use Rattle.cl_model.specs.declared.program.Space.{Space}
use Rattle.cl_tree.specs.declared.tree.Form.{Form}
use Rattle.cl_tree.specs.declared.tree.Form.TheVariants as forms
use Rattle.cl_tree.specs.Syntax.{Syntax, Forest, more}
use Rattle.cl_meaning.specs.Declarations.{form_of, word_of}
use Rattle.cl_meaning.specs.declared.operators.Prefix.{Prefix}
use Rattle.cl_meaning.specs.declared.operators.Prefix.TheVariants as prefixes
use Rattle.cl_meaning.specs.declared.operators.Postfix.{Postfix}
use Rattle.cl_meaning.specs.declared.operators.Postfix.TheVariants as postfixes
use Rattle.cl_meaning.specs.Environment.{Env}
use Rattle.cl_meaning.specs.Faults.{Asked}
use Rattle.cl_check_sound.specs.Shape.{IsExpressionOf}
use Rattle.cl_check_sound.proofs.Grown.{each_append}
use Rattle.cl_short_vec.specs.declared.types.Vector.{Vector}
use Rattle.cl_short_vec.specs.declared.kinds.Reach.TheVariants.{Value, Variable, Element}
use Rattle.cl_short_vec.specs.declared.kinds.Kind.{Kind}
use Rattle.cl_short_vec.specs.declared.kinds.Kind.TheVariants.{Vectors, Pointer, Other}
use Rattle.cl_short_vec.specs.declared.made.Made.{Made}
use Rattle.cl_short_vec.specs.declared.made.Made.TheVariants as made
use Rattle.cl_short_vec.specs.declared.roles.Role.{Role}
use Rattle.cl_short_vec.specs.declared.roles.Role.TheVariants.{Free, Used, Target, Base, Whole, Listed, Items}
use Rattle.cl_short_vec.specs.Types.{numbers}
use Rattle.cl_short_vec.specs.Kinds.{Names, is_vector, pointer_alone, element_of, address_of, prefix_kind}
use Rattle.cl_short_vec.specs.Kinds.{postfix_kind}
use Rattle.cl_short_vec.specs.Marks.{Mark, mark, Marks, unmarked, marking}
use Rattle.cl_short_vec.specs.Roles.{role_of, paren_role}
use Rattle.cl_short_vec.specs.Faults.{refusals, refusals_in, is_end}
use Rattle.cl_short_vec.specs.Made.{made_in, made_by_prefix, is_comma, made_of}
use Rattle.cl_short_vec.specs.Order.{Step, Number, steps_by, steps_in}
use Rattle.cl_short_vec.specs.Order.{all_steps, inside_steps}
use Rattle.cl_short_vec_faults.specs.Plainly.{StandsAlike}
use Rattle.cl_short_vec_faults.specs.Law.{lists, assigns, is_of_vectors}
use Rattle.cl_short_vec_faults.specs.Lines.{IsNumberLeaf}
use Rattle.cl_short_vec_faults.proofs.Refused.{none_of, node_none, is_inner, inner_apart}
use Rattle.cl_short_vec_faults.proofs.Refused.{paren_inner}
use Rattle.cl_short_vec_faults.proofs.PartFits.{both_true}
use Rattle.cl_short_vec_faults.proofs.PartShown.{each_split}
use Rattle.cl_short_vec_faults.proofs.LineSteps.{LeafFits}

-- ---- roles

-- the role of an operand, or of items where `listed` says so
abbrev pub is_item : (listed : Bool) → Role → Bool
is_item true Items = true
is_item listed role = is_inner role

-- the role of parentheses around a list, or around an operand
abbrev pub is_list_role : Role → Bool
is_list_role Listed = true
is_list_role role = is_inner role

pub inner_item : (listed : Bool) (role : Role) → is_inner role ≡ true → is_item listed role ≡ true
inner_item true Items h = absurd (false≢true h)
inner_item true Free h = h
inner_item true Used h = h
inner_item true Target h = h
inner_item true Base h = h
inner_item true Whole h = h
inner_item true Listed h = h
inner_item true role h = h
inner_item false role h = h

lists_no_comma : (form : Form) → is_comma form ≡ false → lists Items form ≡ false
lists_no_comma forms.ExprNode h = absurd (false≢true (sym h))
lists_no_comma _ h = refl

items_assign : (form : Form) (ms : Marks) → assigns Items form ms ≡ false
items_assign forms.AssignNode ms = refl
items_assign _ ms = refl

-- an item that is no vector and no list has nothing to do with vectors
pub item_apart : (listed : Bool) (role : Role) (t : Syntax) (k : Kind) (ms : Marks) → is_item listed role ≡ true →
    (listed && is_comma (form_of t)) ≡ false → is_vector k ≡ false → is_of_vectors role (mark t k ms) ≡ false
item_apart true Items t k ms h c v = rw v (rw (lists_no_comma (form_of t) c) (items_assign (form_of t) ms))
item_apart true role t k ms h c v = inner_apart role (mark t k ms) h v
item_apart false role t k ms h c v = inner_apart role (mark t k ms) h v

item_no_list : (listed : Bool) (role : Role) → is_item listed role ≡ true → lists role forms.ParenNode ≡ false
item_no_list true Listed h = absurd (false≢true h)
item_no_list false Listed h = absurd (false≢true h)
item_no_list listed role h = refl

pub paren_item : (listed : Bool) (role : Role) (k : Kind) → is_item listed role ≡ true → is_inner (paren_role role k)
    ≡ true
paren_item listed role k h = paren_inner role k (item_no_list listed role h)

-- ---- kinds

pub alone_no_vector : (k : Kind) → is_vector (pointer_alone k) ≡ false
alone_no_vector (Vectors v r) = refl
alone_no_vector (Pointer s c v) = refl
alone_no_vector (Other b) = refl

address_no_vector : (k : Kind) → is_vector (address_of k) ≡ false
address_no_vector (Vectors v (Element s c)) = refl
address_no_vector k = refl

-- a vector that is an element
pub record IsElement (k : Kind) : Type 0 where
  pub vector : Vector
  pub space : Space
  pub constant : Bool
  pub is : k ≡ Vectors vector (Element space constant)

element_is : (k : Kind) → is_vector (element_of k) ≡ true → IsElement (element_of k)
element_is (Pointer s c v) h = record { vector = v; space = s; constant = c; is = refl }
element_is (Vectors v r) h = absurd (false≢true h)
element_is (Other b) h = absurd (false≢true h)

abbrev pub is_element_made : Made → Bool
is_element_made made.Element = true
is_element_made how = false

pub prefixed_element : (o : Option Prefix) (k : Kind) → is_element_made (made_by_prefix o) ≡ true →
    is_vector (prefix_kind o k) ≡ true → IsElement (prefix_kind o k)
prefixed_element None k e v = absurd (false≢true v)
prefixed_element (Some (prefixes.Operator op)) k e v = absurd (false≢true e)
prefixed_element (Some prefixes.Content) k e v = element_is k v
prefixed_element (Some prefixes.Address) k e v = absurd (false≢true (sym (address_no_vector k) ∙ v))
prefixed_element (Some (prefixes.Step op)) k e v = absurd (false≢true (sym (alone_no_vector k) ∙ v))
prefixed_element (Some prefixes.Size) k e v = absurd (false≢true v)

pub postfixed_element : (o : Option Postfix) (k : Kind) → is_vector (postfix_kind None o k) ≡ true →
    IsElement (postfix_kind None o k)
postfixed_element (Some postfixes.Index) k v = element_is k v
postfixed_element (Some (postfixes.Step op)) k v = absurd (false≢true (sym (alone_no_vector k) ∙ v))
postfixed_element None k v = absurd (false≢true v)

-- a variable that is a vector
pub variable_only : (k : Kind) (q : List ℕ) (p s : Env) → StandsAlike k q p s → is_vector k ≡ true →
    (v : Vector) × (k ≡ Vectors v Variable)
variable_only (Vectors v Variable) q p s h e = (v, refl)
variable_only (Vectors v Value) q p s h e = absurd h
variable_only (Vectors v (Element s' c)) q p s h e = absurd h
variable_only (Pointer s' c v) q p s h e = absurd (false≢true e)
variable_only (Other b) q p s h e = absurd (false≢true e)

-- ---- numbers in a row

-- what holds of all numbers below some holds of steps for those in a row
in_row : (P : Step → Type 0) (step : ℕ → Step) (first n m : ℕ) → first + n ≤ m →
    ((c : ℕ) → c < m → P (step c)) → Each P (map step (numbers first 1 n))
in_row P step first zero m l h = tt
in_row P step first (suc n) m l h = (h first (omega arith), in_row P step (first + 1) n m (omega arith) h)

pub from_start : (P : Step → Type 0) (step : ℕ → Step) (n : ℕ) → ((c : ℕ) → c < n → P (step c)) →
    Each P (map step (numbers 0 1 n))
from_start P step n h = in_row P step 0 n n (omega arith) h

-- ---- parts

-- of two parts nothing is refused
pub two_none : (role : Role) (t : Syntax) (k : Kind) (a b : Mark) →
    refusals role (mark t k (marking a (marking b unmarked))) ≡ [] →
    (refusals (role_of role (mark t k (marking a (marking b unmarked))) true false a) a ≡ []) ×
    (refusals (role_of role (mark t k (marking a (marking b unmarked))) false true b) b ≡ [])
unfolding refusals_in
two_none role t k a b h =
    let m = mark t k (marking a (marking b unmarked)) in
    let x = none_of (refusals (role_of role m true false a) a) (refusals_in role m false (marking b unmarked))
    (node_none role t k (marking a (marking b unmarked)) h).0 in
    let y = none_of (refusals (role_of role m false true b) b) [] x.1 in
    (x.0, y.0)

-- nothing is refused in any of some parts, which have this role
abbrev pub AllNone : Role → Marks → Type 0
AllNone role unmarked = Unit {0}
AllNone role (marking m ms) = (refusals role m ≡ []) × AllNone role ms

pub all_none : (role as' : Role) (whole : Mark) (front : Bool) (ms : Marks) →
    ((x y : Bool) (p : Mark) → role_of role whole x y p ≡ as') → refusals_in role whole front ms ≡ [] → AllNone as' ms
unfolding refusals_in
all_none role as' whole front unmarked g e = tt
all_none role as' whole front (marking p ps) g e =
    let d = none_of (refusals (role_of role whole front (is_end ps) p) p) (refusals_in role whole false ps) e in
    (subst (λ z. refusals z p ≡ []) (g front (is_end ps) p) d.0, all_none role as' whole false ps g d.1)

-- ---- what is shown of a tree

module _ (asked : Asked) (names : Names) (plain : Env) where
  abbrev pub Fit : List Step → Type 0
  Fit ss = Each (LeafFits asked names plain) ss

  abbrev pub AreNumbers : List Step → Type 0
  AreNumbers ss = Each (IsNumberLeaf plain) ss

  pub record FitsIn (m : Mark) : Type 0 where
    pub steps : (listed : Bool) (of : IntType) (role : Role) → is_item listed role ≡ true → refusals role m ≡ [] →
        AreNumbers (steps_in listed of m) → Fit (steps_in listed of m)
    pub inside' : (of : IntType) (role : Role) → is_list_role role ≡ true → refusals role m ≡ [] →
        AreNumbers (inside_steps of m) → Fit (inside_steps of m)

  -- of the expressions among some parts
  abbrev pub AllFit : Forest → Marks → Type 0
  AllFit (more p ps) (marking m ms) = (IsExpressionOf true p → FitsIn m) × AllFit ps ms
  AllFit ps ms = Unit {0}

  -- the steps of a node, by how it is made
  pub node_steps : (listed : Bool) (of : IntType) (t : Syntax) (k : Kind) (ms : Marks) (items all lists' : List Step) →
      (is_comma (form_of t) ≡ true → listed ≡ true → AreNumbers items → Fit items) →
      (is_vector k ≡ true →
      AreNumbers (steps_by (made_in (form_of t) (word_of t)) of (mark t k ms) items all lists') →
      Fit (steps_by (made_in (form_of t) (word_of t)) of (mark t k ms) items all lists')) →
      ((listed && is_comma (form_of t)) ≡ false → is_vector k ≡ false → AreNumbers (Number of (mark t k ms) ∷ []) →
      Fit (Number of (mark t k ms) ∷ [])) →
      AreNumbers (steps_by (made_of listed t k) of (mark t k ms) items all lists') →
      Fit (steps_by (made_of listed t k) of (mark t k ms) items all lists')
  node_steps listed of t k ms items all lists' f g h = by (listed && is_comma (form_of t)) (is_vector k) refl refl
    where
      by : (b c : Bool) → (listed && is_comma (form_of t)) ≡ b → is_vector k ≡ c →
          AreNumbers (steps_by (if b then made.Items else (if c then made_in (form_of t) (word_of t) else made.Number))
          of (mark t k ms) items all lists') →
          Fit (steps_by (if b then made.Items else (if c then made_in (form_of t) (word_of t) else made.Number)) of
          (mark t k ms) items all lists')
      by true c x y = let z = both_true listed (is_comma (form_of t)) x in f z.1 z.0
      by false true x y = g y
      by false false x y = h x y

  pub one_part : (listed : Bool) (of : IntType) (a : Mark) (role : Role) → FitsIn a → is_item listed role ≡ true →
      refusals role a ≡ [] → AreNumbers (all_steps listed of (marking a unmarked)) →
      Fit (all_steps listed of (marking a unmarked))
  unfolding all_steps
  one_part listed of a role f i r n =
      let x = each_split (IsNumberLeaf plain) (steps_in listed of a) [] n in
      each_append (LeafFits asked names plain) (steps_in listed of a) [] (f.steps listed of role i r x.0) tt

  pub two_parts : (listed : Bool) (of : IntType) (a b : Mark) (q r : Role) → FitsIn a → FitsIn b →
      is_item listed q ≡ true → is_inner r ≡ true → refusals q a ≡ [] → refusals r b ≡ [] →
      AreNumbers (all_steps listed of (marking a (marking b unmarked))) →
      Fit (all_steps listed of (marking a (marking b unmarked)))
  unfolding all_steps
  two_parts listed of a b q r f g i j x y n =
      let z = each_split (IsNumberLeaf plain) (steps_in listed of a) (all_steps false of (marking b unmarked)) n in
      each_append (LeafFits asked names plain) (steps_in listed of a) (all_steps false of (marking b unmarked))
      (f.steps listed of q i x z.0) (one_part false of b r g j y z.1)

  -- arguments
  abbrev pub All : Marks → Type 0
  All unmarked = Unit {0}
  All (marking m ms) = FitsIn m × All ms

  pub every_part : (of : IntType) (role : Role) (ms : Marks) → All ms → is_inner role ≡ true → AllNone role ms →
      AreNumbers (all_steps false of ms) → Fit (all_steps false of ms)
  unfolding all_steps
  every_part of role unmarked f i r n = tt
  every_part of role (marking m ms) f i r n =
      let z = each_split (IsNumberLeaf plain) (steps_in false of m) (all_steps false of ms) n in
      each_append (LeafFits asked names plain) (steps_in false of m) (all_steps false of ms)
      (f.0.steps false of role i r.0 z.0) (every_part of role ms f.1 i r.1 z.1)
