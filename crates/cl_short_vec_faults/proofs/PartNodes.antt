-- Nodes of numbers over helping variables are not at fault, and are numbers: variables, signs, operators and calls.
use Rattle.std.proofs.Common.{◌≡◌, ℕ, suc, ◌-◌, List, [], ◌∷◌, length, Option, None, Some, Bool, true, false, not, ◌&&◌}
use Rattle.std.proofs.Common.{refl, ap, sym, ◌∙◌, subst, if◌then◌else◌, inl}
use Rattle.std.specs.Prelude.{codes, decimal, nat_eq}
use Rattle.std.specs.Fmt.{digits}
use Rattle.wg_num.specs.declared.types.IntType.{IntType}
use Rattle.wg_num.specs.declared.types.IntType.TheVariants as types
use Rattle.wg_num.specs.declared.types.Bin.{Bin}
use Rattle.wg_num.specs.declared.types.Bin.TheVariants as bins
use Rattle.wg_num.specs.declared.types.Un.{Un}
use Rattle.wg_num.specs.declared.types.Un.TheVariants as uns
use Rattle.wg_num.specs.declared.types.Fun.{Fun}
use Rattle.cl_model.specs.Valid.{arity_of}
use Rattle.wg_num.specs.Operators.{is_shift}
use Rattle.wg_num.specs.Wrap.{width_bits, modulus, half}
use Rattle.cl_token.specs.NumberReading.{outcome_of, parts_of}
use Rattle.cl_tree.specs.declared.tree.Form.{Form}
use Rattle.cl_tree.specs.declared.tree.Form.TheVariants as forms
use Rattle.cl_tree.specs.Syntax.{Syntax, node, Forest, none, more}
use Rattle.cl_tree.specs.Nodes.{forest1, forest2}
use Rattle.cl_meaning.specs.Spelling.{name_in}
use Rattle.cl_meaning.specs.Operators.{binary_in, prefix_in}
use Rattle.cl_meaning.specs.Literals.{literal_in}
use Rattle.cl_meaning.specs.Conversions.{promoted, unary_type, binary_type, operand_type, is_comparison}
use Rattle.cl_meaning.specs.declared.names.Intrinsic.TheVariants as intrinsics
use Rattle.cl_meaning.specs.declared.kind.Reach.{Reach}
use Rattle.cl_meaning.specs.declared.kind.Reach.TheVariants as reach
use Rattle.cl_meaning.specs.declared.kind.Kind.{Kind}
use Rattle.cl_meaning.specs.declared.kind.Kind.TheVariants as kinds
use Rattle.cl_meaning.specs.declared.kind.Meaning.{Meaning}
use Rattle.cl_meaning.specs.declared.kind.Meaning.TheVariants as meanings
use Rattle.cl_meaning.specs.declared.kind.Role.TheVariants as roles
use Rattle.cl_meaning.specs.Environment.{Env, meaning_of}
use Rattle.cl_meaning.specs.Kinds.{is_some, on_one, on_both, number, name_kind, kind_of_meaning, literal_kind}
use Rattle.cl_meaning.specs.Kinds.{kind_step}
use Rattle.cl_meaning.specs.Kinds.{undefined, known, callee_of, arity_fits, call_fits, call_kind, all_known}
use Rattle.cl_meaning.specs.Kinds.{all_numbers, intrinsic_result}
use Rattle.cl_meaning.specs.Visible.{in_arguments, inside}
use Rattle.cl_meaning.specs.Faults.{Asked, Looked, given, valueless, misfits, leads_from, is_fence_call}
use Rattle.cl_meaning.specs.Kinds.{are_flags_alone}
use Rattle.cl_check_sound.specs.Shape.{AreOperands}
use Rattle.cl_check_sound.proofs.Plain.{SoundHere, kinds_here}
use Rattle.cl_short_vec.specs.declared.nodes.Span.{Span}
use Rattle.cl_short_vec.specs.Nodes.{at, variable_at, int_at, paren_at, cast_at, joined_at}
use Rattle.cl_short_vec.specs.Nodes.{signed_at, amount_at, component_joined, component_name, helper}
use Rattle.cl_short_vec_faults.specs.Plainly.{has_point, unnumbered}
use Rattle.cl_short_vec_faults.specs.Parts.{StandsForNumber}
use Rattle.cl_short_vec_faults.proofs.Building.{seen, Fine, Good, good}
use Rattle.cl_short_vec_faults.proofs.Nodes.{is_quiet, quiet_expression, quiet_no_call, quiet_fine, leaf_good, one_good}
use Rattle.cl_short_vec_faults.proofs.Nodes.{two_good}
use Rattle.cl_short_vec_faults.proofs.Known.{somes, somes_known, somes_many}
use Rattle.cl_short_vec_faults.proofs.Made.{paren_good}
use Rattle.cl_short_vec_faults.proofs.Counted.{cast_good}
use Rattle.cl_short_vec_faults.proofs.Points.{point_no_flag, component_point, component_named}

-- a tree of which no node is at fault, and which is a number
abbrev pub GoodNumber : Asked → Env → Syntax → Type 0
GoodNumber asked env t = (of : IntType) × (p : Reach) × Good asked env roles.Other t (kinds.Number of p)

-- ---- variables

scalar_meant : (o : Option Meaning) (of : IntType) (fixed : Bool) →
    unnumbered o ≡ Some (meanings.Scalar of fixed 0) →
    on_one o kind_of_meaning ≡ Some (kinds.Number of (reach.Variable fixed))
scalar_meant (Some (meanings.Scalar t c x)) of fixed h =
    let same : t ≡ of = cc in
    let also : c ≡ fixed = cc in
    ap (λ z. Some (kinds.Number z (reach.Variable c))) same ∙ ap (λ z. Some (kinds.Number of (reach.Variable z))) also
scalar_meant None of fixed h = absurd cc
scalar_meant (Some (meanings.Pointer s e c r f x)) of fixed h = absurd cc
scalar_meant (Some (meanings.Object s e c r)) of fixed h = absurd cc
scalar_meant (Some (meanings.Array s e c r i)) of fixed h = absurd cc
scalar_meant (Some (meanings.Function n)) of fixed h = absurd cc
scalar_meant (Some meanings.Undefined) of fixed h = absurd cc
scalar_meant (Some meanings.Kernel) of fixed h = absurd cc

-- a name with a point is that of no memory fence
pub unflagged : (env : Env) (q : List ℕ) → has_point q ≡ true →
    name_kind env q ≡ on_one (meaning_of env q) kind_of_meaning
unflagged env q p = ap (λ z. if env.flags && is_some z then Some (number types.Uint) else
    on_one (meaning_of env q) kind_of_meaning) (point_no_flag q p) ∙ by env.flags
  where
    by : (b : Bool) → (if b && false then Some (number types.Uint) else on_one (meaning_of env q) kind_of_meaning) ≡
        on_one (meaning_of env q) kind_of_meaning
    by true = refl
    by false = refl

pub variable_number : (asked : Asked) (env : Env) (q : List ℕ) (s : Span) → name_in q ≡ q → has_point q ≡ true →
    StandsForNumber env q → GoodNumber asked env (variable_at q s)
unfolding kind_step misfits
variable_number asked env q s n p h =
    let k = kinds.Number h.0 (reach.Variable h.1) in
    let e : name_kind env (name_in q) ≡ Some k =
    ap (name_kind env) n ∙ unflagged env q p ∙ scalar_meant (meaning_of env q) h.0 h.1 h.2 in (
      h.0,
      reach.Variable h.1,
      leaf_good asked env roles.Other forms.VariableNode q s.first s.last k refl refl (record {
        known = ap (λ z. not (is_some z)) e;
        fit = refl;
        tested = refl;
        counted = refl;
        passed = refl;
        assignable = refl;
        written = refl;
        ends = refl;
        rooted = refl;
        flagged = refl;
      }) e,
    )

-- the names of helping variables
pub helper_named : (s : Span) → name_in (helper s) ≡ helper s
helper_named s = component_named [] s.first

pub helping_named : (s : Span) (c : ℕ) → name_in (component_name (helper s) c) ≡ component_name (helper s) c
helping_named s c = subst (λ z. name_in (component_name z c) ≡ component_name z c) (helper_named s)
    (component_named (helper s) c)

pub helper_number : (asked : Asked) (env : Env) (s : Span) → StandsForNumber env (helper s) →
    GoodNumber asked env (variable_at (helper s) s)
helper_number asked env s h = variable_number asked env (helper s) s (helper_named s) (component_point [] s.first) h

pub helping_number : (asked : Asked) (env : Env) (s : Span) (c : ℕ) → StandsForNumber env (component_name (helper s)
    c) →
    GoodNumber asked env (variable_at (component_name (helper s) c) s)
helping_number asked env s c h =
    variable_number asked env (component_name (helper s) c) s (helping_named s c) (component_point (helper s) c) h

-- ---- literals, parentheses and casts

mask_kind : (of : IntType) → literal_kind (literal_in (decimal (width_bits of - 1))) ≡ Some (number types.Int)
unfolding literal_in outcome_of parts_of digits modulus half
mask_kind types.Bool = refl
mask_kind types.Char = refl
mask_kind types.Uchar = refl
mask_kind types.Short = refl
mask_kind types.Ushort = refl
mask_kind types.Int = refl
mask_kind types.Uint = refl
mask_kind types.Long = refl
mask_kind types.Ulong = refl

mask_number : (asked : Asked) (env : Env) (of : IntType) (s : Span) →
    GoodNumber asked env (int_at (width_bits of - 1) s)
unfolding kind_step misfits
mask_number asked env of s =
    let w = decimal (width_bits of - 1) in (
      types.Int,
      reach.Value,
      leaf_good asked env roles.Other forms.NumberNode w s.first s.last (number types.Int)
          refl refl (quiet_fine asked (seen env roles.Other forms.NumberNode w s.first none []) refl refl refl)
          (mask_kind of),
    )

pub paren_number : (asked : Asked) (env : Env) (s : Span) (a : Syntax) → GoodNumber asked env a →
    GoodNumber asked env (paren_at s a)
paren_number asked env s a x =
    (x.0, x.1, paren_good asked env roles.Other s a (kinds.Number x.0 x.1) x.2 refl)

pub cast_number : (asked : Asked) (env : Env) (of : IntType) (s : Span) (a : Syntax) → GoodNumber asked env a →
    GoodNumber asked env (cast_at of s a)
cast_number asked env of s a x = (of, reach.Value, cast_good asked env of s a x.0 x.1 x.2)

-- ---- operators

module _ (asked : Asked) (env : Env) (s : Span) (a : Syntax) (x : GoodNumber asked env a) where
  abbrev one_number : Kind
  one_number = kinds.Number x.0 x.1

  sign : (op : Un) (w : List ℕ) →
      Fine asked (seen env roles.Other forms.UnaryNode w s.first (forest1 a) (Some one_number ∷ [])) →
      kind_step env forms.UnaryNode w (forest1 a) (Some one_number ∷ []) ≡
      Some (number (unary_type op (promoted x.0))) →
      GoodNumber asked env (node forms.UnaryNode w s.first s.last (forest1 a))
  sign op w n g = (
    unary_type op (promoted x.0),
    reach.Value,
    one_good asked env roles.Other forms.UnaryNode w s.first s.last (number (unary_type op (promoted x.0))) refl refl
        a one_number x.2 n g,
  )

  -- in front of a number
  pub signed_number : (op : Un) → GoodNumber asked env (signed_at op s a)
  unfolding kind_step misfits prefix_in
  signed_number uns.Plus = sign uns.Plus (codes "+") (record {
    known = refl;
    fit = refl;
    tested = refl;
    counted = refl;
    passed = refl;
    assignable = refl;
    written = refl;
    ends = refl;
    rooted = refl;
    flagged = refl;
  }) refl
  signed_number uns.Minus = sign uns.Minus (codes "-") (record {
    known = refl;
    fit = refl;
    tested = refl;
    counted = refl;
    passed = refl;
    assignable = refl;
    written = refl;
    ends = refl;
    rooted = refl;
    flagged = refl;
  }) refl
  signed_number uns.Flip = sign uns.Flip (codes "~") (record {
    known = refl;
    fit = refl;
    tested = refl;
    counted = refl;
    passed = refl;
    assignable = refl;
    written = refl;
    ends = refl;
    rooted = refl;
    flagged = refl;
  }) refl
  signed_number uns.Not = sign uns.Not (codes "!") (record {
    known = refl;
    fit = refl;
    tested = refl;
    counted = refl;
    passed = refl;
    assignable = refl;
    written = refl;
    ends = refl;
    rooted = refl;
    flagged = refl;
  }) refl

module _ (asked : Asked) (env : Env) (s : Span) (a b : Syntax) (x : GoodNumber asked env a)
    (y : GoodNumber asked env b) where
  abbrev two_numbers : List (Option Kind)
  two_numbers = Some (kinds.Number x.0 x.1) ∷ Some (kinds.Number y.0 y.1) ∷ []

  abbrev result : Bin → IntType
  result op = binary_type op (operand_type op x.0 y.0)

  operator : (form : Form) (w : List ℕ) (of : IntType) → is_quiet form ≡ true →
      misfits (seen env roles.Other form w s.first (forest2 a b) two_numbers) form ≡ false →
      kind_step env form w (forest2 a b) two_numbers ≡ Some (number of) →
      GoodNumber asked env (node form w s.first s.last (forest2 a b))
  operator form w of q m g = (
    of,
    reach.Value,
    two_good asked env roles.Other form w s.first s.last (number of) (quiet_expression form q)
        (quiet_no_call form q) a b (kinds.Number x.0 x.1) (kinds.Number y.0 y.1) x.2 y.2
        (quiet_fine asked (seen env roles.Other form w s.first (forest2 a b) two_numbers) q m refl) g,
  )

  -- between two numbers
  pub joined_number : (op : Bin) → GoodNumber asked env (joined_at op s a b)
  unfolding kind_step misfits binary_in
  joined_number bins.Mul = operator forms.TermNode (codes "*") (result bins.Mul) refl refl refl
  joined_number bins.Div = operator forms.TermNode (codes "/") (result bins.Div) refl refl refl
  joined_number bins.Rem = operator forms.TermNode (codes "%") (result bins.Rem) refl refl refl
  joined_number bins.Add = operator forms.SumNode (codes "+") (result bins.Add) refl refl refl
  joined_number bins.Sub = operator forms.SumNode (codes "-") (result bins.Sub) refl refl refl
  joined_number bins.Shl = operator forms.ShiftNode (codes "<<") (result bins.Shl) refl refl refl
  joined_number bins.Shr = operator forms.ShiftNode (codes ">>") (result bins.Shr) refl refl refl
  joined_number bins.And = operator forms.BandNode (codes "&") (result bins.And) refl refl refl
  joined_number bins.Xor = operator forms.BxorNode (codes "^") (result bins.Xor) refl refl refl
  joined_number bins.Or = operator forms.BorNode (codes "|") (result bins.Or) refl refl refl
  joined_number bins.Eq = operator forms.EqualNode (codes "==") (result bins.Eq) refl refl refl
  joined_number bins.Ne = operator forms.EqualNode (codes "!=") (result bins.Ne) refl refl refl
  joined_number bins.Lt = operator forms.OrderNode (codes "<") (result bins.Lt) refl refl refl
  joined_number bins.Le = operator forms.OrderNode (codes "<=") (result bins.Le) refl refl refl
  joined_number bins.Gt = operator forms.OrderNode (codes ">") (result bins.Gt) refl refl refl
  joined_number bins.Ge = operator forms.OrderNode (codes ">=") (result bins.Ge) refl refl refl

amount_number : (asked : Asked) (env : Env) (of : IntType) (s : Span) (b : Syntax) → GoodNumber asked env b →
    GoodNumber asked env (amount_at of s b)
amount_number asked env of s b y = let m = int_at (width_bits of - 1) s in
    paren_number asked env s (joined_at bins.And s b m)
    (joined_number asked env s b m y (mask_number asked env of s) bins.And)

-- an operator on two components
pub component_number : (asked : Asked) (env : Env) (op : Bin) (of : IntType) (s : Span) (a b : Syntax) →
    GoodNumber asked env a → GoodNumber asked env b → GoodNumber asked env (component_joined op of s a b)
component_number asked env op of s a b x y = by (is_comparison op) (is_shift op)
  where
    j : GoodNumber asked env (joined_at op s a b)
    j = joined_number asked env s a b x y op

    m : GoodNumber asked env (amount_at of s b)
    m = amount_number asked env of s b y

    by : (c d : Bool) → GoodNumber asked env
        (if c then cast_at of s (signed_at uns.Minus s (paren_at s (joined_at op s a b))) else
        (if d then cast_at of s (joined_at op s a (amount_at of s b)) else cast_at of s (joined_at op s a b)))
    by true d = cast_number asked env of s (signed_at uns.Minus s (paren_at s (joined_at op s a b)))
        (signed_number asked env s (paren_at s (joined_at op s a b))
        (paren_number asked env s (joined_at op s a b) j) uns.Minus)
    by false true = cast_number asked env of s (joined_at op s a (amount_at of s b))
        (joined_number asked env s a (amount_at of s b) x m op)
    by false false = cast_number asked env of s (joined_at op s a b) j

-- ---- calls

abbrev pub AllNumbers : Asked → Env → Forest → Type 0
AllNumbers asked env none = Unit {0}
AllNumbers asked env (more p ps) = GoodNumber asked env p × AllNumbers asked env ps

abbrev pub many : Forest → ℕ
many none = 0
many (more p ps) = suc (many ps)

module _ (asked : Asked) (env : Env) where
  kinds_in : (parts : Forest) → AllNumbers asked env parts → List Kind
  kinds_in none h = []
  kinds_in (more p ps) h = kinds.Number h.0.0 h.0.1 ∷ kinds_in ps h.1

  are_many : (parts : Forest) (h : AllNumbers asked env parts) → length (kinds_in parts h) ≡ many parts
  unfolding kinds_in
  are_many none h = refl
  are_many (more p ps) h = ap suc (are_many ps h.1)

  are_numbers : (parts : Forest) (h : AllNumbers asked env parts) → all_numbers (kinds_in parts h) ≡ true
  unfolding kinds_in
  are_numbers none h = refl
  are_numbers (more p ps) h = are_numbers ps h.1

  are_kinds : (parts : Forest) (h : AllNumbers asked env parts) → kinds_here env parts ≡ somes (kinds_in parts h)
  unfolding kinds_in
  are_kinds none h = refl
  are_kinds (more p ps) h = ap (λ z. z ∷ kinds_here env ps) h.0.2.kind ∙
      ap (λ z. Some (kinds.Number h.0.0 h.0.1) ∷ z) (are_kinds ps h.1)

  are_sound : (parts : Forest) → AllNumbers asked env parts → SoundHere asked env parts
  are_sound none h = tt
  are_sound (more p ps) h = (h.0.2.sound, are_sound ps h.1)

  are_made : (parts : Forest) → AllNumbers asked env parts → AreOperands parts
  are_made none h = tt
  are_made (more p ps) h = (inl h.0.2.made, are_made ps h.1)

second_no : (b : Bool) → (b && false) ≡ false
second_no true = refl
second_no false = refl

module _ (asked : Asked) (env : Env) (w : List ℕ) (s : Span) (f : Fun) (parts : Forest) (ks : List Kind)
    (h : callee_of env (name_in w) ≡ Some (known (intrinsics.Function f)))
    (a : nat_eq (arity_of f) (length ks) ≡ true) (n : all_numbers ks ≡ true) where
  abbrev there : Looked
  there = seen env roles.Other forms.CallNode w s.first parts (somes ks)

  call_fit : valueless there (callee_of env (name_in w)) ≡ false
  call_fit = ap (valueless there) h ∙ second_no (given (all_known (somes ks))
      (λ as'. arity_fits (known (intrinsics.Function f)) (length as')))

  call_counted : given (callee_of env (name_in w)) (λ c. not (arity_fits c (length (somes ks)))) ≡ false
  call_counted = ap (λ z. given z (λ c. not (arity_fits c (length (somes ks))))) h ∙
      ap (λ z. not (nat_eq (arity_of f) z)) (somes_many ks) ∙ ap not a

  call_passed : given (callee_of env (name_in w)) (λ c. given (all_known (somes ks))
      (λ as'. arity_fits c (length as') && not (call_fits c as'))) ≡ false
  call_passed = ap (λ z. given z (λ c. given (all_known (somes ks))
      (λ as'. arity_fits c (length as') && not (call_fits c as')))) h ∙
      ap (λ z. given z (λ as'. arity_fits (known (intrinsics.Function f)) (length as') && not (all_numbers as')))
      (somes_known ks) ∙ ap (λ z. nat_eq (arity_of f) (length ks) && not z) n ∙
      second_no (nat_eq (arity_of f) (length ks))

  call_ends : given (callee_of env (name_in w)) (leads_from asked.calls env.owner.number) ≡ false
  call_ends = ap (λ z. given z (leads_from asked.calls env.owner.number)) h

  call_flagged : given (callee_of env (name_in w)) (λ c. is_fence_call c &&
      (arity_fits c (length (somes ks)) && not (are_flags_alone parts))) ≡ false
  call_flagged = ap (λ z. given z (λ c. is_fence_call c &&
      (arity_fits c (length (somes ks)) && not (are_flags_alone parts)))) h

  call_fine : Fine asked there
  unfolding misfits
  call_fine = record {
    known = ap (λ z. not (is_some z)) h;
    fit = call_fit;
    tested = refl;
    counted = call_counted;
    passed = call_passed;
    assignable = refl;
    written = refl;
    ends = call_ends;
    rooted = refl;
    flagged = call_flagged;
  }

  call_gives : kind_step env forms.CallNode w parts (somes ks) ≡
      Some (intrinsic_result (intrinsics.Function f) ks)
  unfolding kind_step
  call_gives = ap (λ z. on_both z (all_known (somes ks)) call_kind) h ∙
      ap (λ z. on_both (Some (known (intrinsics.Function f))) z call_kind) (somes_known ks) ∙
      ap (λ z. if z && all_numbers ks then Some (intrinsic_result (intrinsics.Function f) ks) else None) a ∙
      ap (λ z. if z then Some (intrinsic_result (intrinsics.Function f) ks) else None) n

  call_listed : callee_of env (name_in w) ≡ Some undefined → ⊥
  call_listed e = let bad : Some (known (intrinsics.Function f)) ≡ Some undefined = sym h ∙ e in absurd cc

-- a function that is known without a declaration, on as many numbers as it takes
pub call_number : (asked : Asked) (env : Env) (w : List ℕ) (s : Span) (f : Fun) (parts : Forest) →
    callee_of env (name_in w) ≡ Some (known (intrinsics.Function f)) → nat_eq (arity_of f) (many parts) ≡ true →
    AllNumbers asked (in_arguments env (name_in w)) parts → GoodNumber asked env (at forms.CallNode w s parts)
unfolding inside
call_number asked env w s f parts h a x =
    let inner = in_arguments env (name_in w) in
    let ks = kinds_in asked inner parts x in
    let arity : nat_eq (arity_of f) (length ks) ≡ true =
    ap (nat_eq (arity_of f)) (are_many asked inner parts x) ∙ a in
    let n = are_numbers asked inner parts x in (
      _,
      reach.Value,
      good asked env roles.Other forms.CallNode w s.first s.last parts (somes ks)
          (intrinsic_result (intrinsics.Function f) ks) refl (are_made asked inner parts x)
          (are_sound asked inner parts x) (are_kinds asked inner parts x)
          (λ e. absurd (call_listed asked env w s f parts ks h arity n e))
          (call_fine asked env w s f parts ks h arity n) (call_gives asked env w s f parts ks h arity n),
    )
