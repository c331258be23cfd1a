-- What is asked of the parts of a node, where nothing is refused: operators, selections, calls and casts.
use Rattle.std.proofs.Common.{◌≡◌, ℕ, zero, suc, ◌<◌, nat_eq, nat_lt, List, [], ◌∷◌, length, Option, None, Some}
use Rattle.std.proofs.Common.{Bool, true, false, not, ◌&&◌, if◌then◌else◌, refl, sym, ap, ◌∙◌, subst, arith}
use Rattle.std.proofs.lemmas.Bool.{false≢true}
use Rattle.std.proofs.lemmas.Bool.Decides.{nat_tests}
use Rattle.std.specs.Prelude.{slice_index}
use Rattle.wg_num.specs.declared.types.IntType.{IntType}
use Rattle.wg_num.specs.declared.types.Bin.{Bin}
use Rattle.wg_num.specs.declared.types.Bin.TheVariants as bins
use Rattle.wg_num.specs.declared.types.Un.TheVariants as uns
use Rattle.wg_num.specs.declared.types.Fun.{Fun}
use Rattle.wg_num.specs.Types.{same_type}
use Rattle.cl_tree.specs.declared.tree.Form.TheVariants as forms
use Rattle.cl_tree.specs.Syntax.{Syntax, node, Forest, first_of}
use Rattle.cl_meaning.specs.Spelling.{name_in, intrinsic_in}
use Rattle.cl_meaning.specs.Conversions.{is_comparison}
use Rattle.cl_meaning.specs.Declarations.{form_of, word_of}
use Rattle.cl_meaning.specs.declared.operators.Prefix.{Prefix}
use Rattle.cl_meaning.specs.declared.operators.Prefix.TheVariants as prefixes
use Rattle.cl_meaning.specs.declared.operators.Postfix.{Postfix}
use Rattle.cl_meaning.specs.declared.names.Intrinsic.{Intrinsic}
use Rattle.cl_meaning.specs.declared.names.Intrinsic.TheVariants as intrinsics
use Rattle.cl_meaning.specs.Environment.{Env}
use Rattle.cl_meaning.specs.Kinds.{is_some}
use Rattle.cl_meaning.specs.Visible.{in_arguments}
use Rattle.cl_meaning.specs.Faults.{Asked}
use Rattle.cl_short_vec.specs.declared.types.Vector.{Vector}
use Rattle.cl_short_vec.specs.declared.kinds.Reach.{Reach}
use Rattle.cl_short_vec.specs.declared.kinds.Kind.{Kind}
use Rattle.cl_short_vec.specs.declared.kinds.Kind.TheVariants.{Vectors, Pointer, Other}
use Rattle.cl_short_vec.specs.declared.made.Made.{Made}
use Rattle.cl_short_vec.specs.declared.made.Made.TheVariants as made
use Rattle.cl_short_vec.specs.declared.roles.Role.{Role}
use Rattle.cl_short_vec.specs.declared.roles.Role.TheVariants.{Free, Typed}
use Rattle.cl_short_vec.specs.Types.{vector, signed_of}
use Rattle.cl_short_vec.specs.Types.{vector_in, same_vector, selected, allowed, named_in, all_below, is_width}
use Rattle.cl_short_vec.specs.Types.{selection_in}
use Rattle.cl_short_vec.specs.Kinds.{is_vector, compared, pointer_moved, joined_kind, prefix_kind, postfix_kind}
use Rattle.cl_short_vec.specs.Kinds.{several}
use Rattle.cl_short_vec.specs.Kinds.{selection_of, pointer_alone, called_kind, cast_kind}
use Rattle.cl_short_vec.specs.Marks.{Mark, mark, Marks, unmarked, marking, tree_at, kind_at, vector_among}
use Rattle.cl_short_vec.specs.Faults.{misplaced, no_component, types_differ, least, refusals, refusals_in, refusal_at}
use Rattle.cl_short_vec.specs.Faults.{is_end, fits, agrees, all_agree, is_typed, inside_fills, cast_fills}
use Rattle.cl_short_vec.specs.Roles.{role_of, is_paren, is_list_cast}
use Rattle.cl_short_vec.specs.Made.{made_by_prefix, made_by_selection, made_by_operator}
use Rattle.cl_short_vec.specs.Order.{count_in, steps_in}
use Rattle.cl_short_vec.specs.Parts.{part_in, chosen_at, selection_by, selected_at}
use Rattle.cl_short_vec_faults.specs.Parts.{HasPart}
use Rattle.cl_short_vec_faults.proofs.Refused.{none_of}
use Rattle.cl_short_vec_faults.proofs.Known.{not_false}
use Rattle.cl_short_vec_faults.proofs.PartNodes.{GoodNumber}
use Rattle.cl_short_vec_faults.proofs.PartCalls.{CallsKnown}
use Rattle.cl_short_vec_faults.proofs.PartShown.{many_in, Either, Helped, Operand, Every, InList, Asks}

-- ---- refusals

least_none : (token : ℕ) (a b c : Bool) → least token a b c ≡ [] → (a ≡ false) × (c ≡ false)
least_none token true b c h = absurd cc
least_none token false true c h = absurd cc
least_none token false false true h = absurd cc
least_none token false false false h = (refl, refl)

-- of a tree nothing is refused, wherever it stands
abbrev pub NoneRefused : Mark → Type 0
NoneRefused m = (role : Role) × (refusals role m ≡ [])

abbrev pub NoneOfAll : Marks → Type 0
NoneOfAll unmarked = Unit {0}
NoneOfAll (marking m ms) = NoneRefused m × NoneOfAll ms

pub parts_none : (role : Role) (m : Mark) (front : Bool) (ms : Marks) → refusals_in role m front ms ≡ [] → NoneOfAll ms
unfolding refusals_in
parts_none role m front unmarked h = tt
parts_none role m front (marking p ps) h =
    let r = role_of role m front (is_end ps) p in
    let d = none_of (refusals r p) (refusals_in role m false ps) h in
    ((r, d.0), parts_none role m false ps d.1)

-- no vector is misplaced, and no types differ
pub node_fits : (role : Role) (t : Syntax) (k : Kind) (ms : Marks) → refusals role (mark t k ms) ≡ [] →
    (refusals_in role (mark t k ms) true ms ≡ []) × (misplaced role t k ≡ false) × (types_differ role t k ms ≡ false)
unfolding refusals
node_fits role t k ms h =
    let d = none_of (refusals_in role (mark t k ms) true ms) (refusal_at role (mark t k ms)) h in
    let l = least_none (first_of t) (misplaced role t k) (no_component role (mark t k ms)) (types_differ role t k ms)
    d.1 in
    (d.0, l.0, l.1)

pub both_true : (a b : Bool) → (a && b) ≡ true → (a ≡ true) × (b ≡ true)
both_true true b e = (refl, e)
both_true false b e = absurd (false≢true e)

-- ---- selections

below_by : (n : ℕ) (o : Option (List ℕ)) (ks : List ℕ) → allowed n o ≡ Some ks → all_below n ks ≡ true
below_by n None ks h = absurd cc
below_by n (Some js) ks h = by (all_below n js) refl (is_width (length js)) h
  where
    by : (b : Bool) → all_below n js ≡ b → (w : Bool) → (if b && w then Some js else None) ≡ Some ks →
        all_below n ks ≡ true
    by true e true g = let same : js ≡ ks = cc in ap (all_below n) (sym same) ∙ e
    by true e false g = absurd cc
    by false e w g = absurd cc

index_below : (n : ℕ) (ks : List ℕ) (c : ℕ) → all_below n ks ≡ true → c < length ks → slice_index ks c < n
index_below n [] c h l = absurd (omega arith)
index_below n (k ∷ ks) zero h l =
    let b = both_true (nat_lt k n) (all_below n ks) h in grind (arith, nat_tests)
index_below n (k ∷ ks) (suc c) h l =
    index_below n ks c (both_true (nat_lt k n) (all_below n ks) h).1 (omega arith)

-- the components that a name selects are there
pub selected_within : (n : ℕ) (name ks : List ℕ) (c : ℕ) → selected n name ≡ Some ks → c < length ks →
    slice_index ks c < n
unfolding selected
selected_within n name ks c h l = index_below n ks c (below_by n (named_in n name) ks h) l

-- ---- operands

-- a vector of so many components, or no vector
abbrev pub Wide : ℕ → Kind → Type 0
Wide n (Vectors u r) = u.count ≡ n
Wide n k = Unit {0}

pub same_count : (v u : Vector) → same_vector v u ≡ true → u.count ≡ v.count
same_count v u h = let b = both_true (same_type v.of u.of) (nat_eq v.count u.count) h in grind (arith, nat_tests)

pub has_wide : (n c : ℕ) (k : Kind) → Wide n k → c < n → is_vector k ≡ true → c < count_in k
has_wide n c (Vectors u r) s l v = subst (λ z. c < z) (sym s) l
has_wide n c (Pointer s' c' u) s l v = absurd (false≢true v)
has_wide n c (Other b) s l v = absurd (false≢true v)

-- the vector that two operands show
record Shows (op : Bin) (j k : Kind) : Type 0 where
  width : ℕ
  first : Wide width j
  second : Wide width k
  joined : count_in (joined_kind (Some op) j k) ≡ width

moved_no_vector : (op : Bin) (j k : Kind) → is_vector (pointer_moved op j k) ≡ false
moved_no_vector bins.Add (Pointer s c v) (Other b) = refl
moved_no_vector bins.Add (Other b) (Pointer s c v) = refl
moved_no_vector bins.Sub (Pointer s c v) (Other b) = refl
moved_no_vector op j k = refl

compared_count : (op : Bin) (v : Vector) (r : Reach) → count_in (compared op (Vectors v r)) ≡ v.count
compared_count op v r = by (is_comparison op)
  where
    by : (b : Bool) → count_in (if b then Vectors (vector (signed_of v.of) v.count) r else Vectors v r) ≡ v.count
    by true = refl
    by false = refl

shows : (op : Bin) (j k : Kind) → is_vector (joined_kind (Some op) j k) ≡ true → fits j k ≡ true → Shows op j k
shows op (Vectors v r) (Vectors u s) e f = record {
  width = v.count;
  first = refl;
  second = same_count v u f;
  joined = compared_count op v _;
}
shows op (Vectors v r) (Pointer s c u) e f =
    record { width = v.count; first = refl; second = tt; joined = compared_count op v _ }
shows op (Vectors v r) (Other b) e f =
    record { width = v.count; first = refl; second = tt; joined = compared_count op v _ }
shows op (Pointer s c u) (Vectors v r) e f =
    record { width = v.count; first = tt; second = refl; joined = compared_count op v _ }
shows op (Other b) (Vectors v r) e f =
    record { width = v.count; first = tt; second = refl; joined = compared_count op v _ }
shows op (Pointer s c u) (Pointer p q v) e f =
    absurd (false≢true (sym (moved_no_vector op (Pointer s c u) (Pointer p q v)) ∙ e))
shows op (Pointer s c u) (Other b) e f =
    absurd (false≢true (sym (moved_no_vector op (Pointer s c u) (Other b)) ∙ e))
shows op (Other b) (Pointer s c u) e f =
    absurd (false≢true (sym (moved_no_vector op (Other b) (Pointer s c u)) ∙ e))
shows op (Other b) (Other y) e f = absurd (false≢true (sym (moved_no_vector op (Other b) (Other y)) ∙ e))

-- ---- nodes

module _ (asked : Asked) (env : Env) where
  -- a part of which each component is a number that is at fault at no node
  abbrev pub Alone : Mark → Type 0
  Alone m = (of : IntType) → Helped asked env (steps_in false of m) → (c : ℕ) → HasPart false m c →
      GoodNumber asked env (part_in false m c)

  abbrev pub AllAlone : Marks → Type 0
  AllAlone unmarked = Unit {0}
  AllAlone (marking m ms) = Alone m × AllAlone ms

  pub operand_fits : (m : Mark) (n : ℕ) → Wide n (kind_at m) → Alone m → Operand asked env (λ c. c) n m
  operand_fits m n w f of h c l = f of h c (λ v. has_wide n c (kind_at m) w l v)

  -- what is asked of a node that is made so where it is a vector
  abbrev pub AsksIf : Syntax → Made → Kind → Marks → Type 0
  AsksIf t how k ms = Asks asked env (if is_vector k then how else made.Number) t k ms

  pub element_asks : (t : Syntax) (k : Kind) (ms : Marks) → AsksIf t made.Element k ms
  element_asks t k ms = by (is_vector k)
    where
      by : (b : Bool) → Asks asked env (if b then made.Element else made.Number) t k ms
      by true = tt
      by false = tt

  pub variable_asks : (t : Syntax) (k : Kind) (ms : Marks) → AsksIf t made.Variable k ms
  variable_asks t k ms = by (is_vector k)
    where
      by : (b : Bool) → Asks asked env (if b then made.Variable else made.Number) t k ms
      by true = tt
      by false = tt

  pub pointer_asks : (t : Syntax) (how : Made) (k : Kind) (ms : Marks) → AsksIf t how (pointer_alone k) ms
  pointer_asks t how (Vectors v r) ms = tt
  pointer_asks t how (Pointer s c v) ms = tt
  pointer_asks t how (Other b) ms = tt

  pub paren_asks : (t : Syntax) (m : Mark) → Alone m → AsksIf t made.Inside (kind_at m) (marking m unmarked)
  paren_asks t (mark u (Vectors v r) ms) f = operand_fits (mark u (Vectors v r) ms) v.count refl f
  paren_asks t (mark u (Pointer s c v) ms) f = tt
  paren_asks t (mark u (Other b) ms) f = tt

  pub prefix_asks : (o : Option Prefix) (t : Syntax) (m : Mark) → Alone m →
      AsksIf t (made_by_prefix o) (prefix_kind o (kind_at m)) (marking m unmarked)
  prefix_asks (Some (prefixes.Operator uns.Not)) t m f = tt
  prefix_asks (Some (prefixes.Operator uns.Plus)) t (mark u (Vectors v r) ms) f =
      operand_fits (mark u (Vectors v r) ms) v.count refl f
  prefix_asks (Some (prefixes.Operator uns.Minus)) t (mark u (Vectors v r) ms) f =
      operand_fits (mark u (Vectors v r) ms) v.count refl f
  prefix_asks (Some (prefixes.Operator uns.Flip)) t (mark u (Vectors v r) ms) f =
      operand_fits (mark u (Vectors v r) ms) v.count refl f
  prefix_asks (Some (prefixes.Operator op)) t (mark u (Pointer s c v) ms) f = tt
  prefix_asks (Some (prefixes.Operator op)) t (mark u (Other b) ms) f = tt
  prefix_asks o t m f = element_asks t (prefix_kind o (kind_at m)) (marking m unmarked)

  selection_asks : (t : Syntax) (name : List ℕ) (m : Mark) (others : Marks) →
      selection_in (word_of t) ≡ Some name → Alone m →
      AsksIf t made.Selected (selection_of (kind_at m) name) (marking m others)
  selection_asks t name (mark u (Pointer s c v) ms) others e f = tt
  selection_asks t name (mark u (Other b) ms) others e f = tt
  selection_asks t name (mark u (Vectors v r) ms) others e f = by (selected v.count name) refl
    where
      m : Mark
      m = mark u (Vectors v r) ms

      each : (ks : List ℕ) → selected v.count name ≡ Some ks → (c : ℕ) → c < length ks →
          selected_at t (marking m others) c < v.count
      each ks h c l = subst (λ z. chosen_at (selection_by z (Vectors v r)) c < v.count) (sym e)
          (subst (λ z. chosen_at z c < v.count) (sym h) (selected_within v.count name ks c h l))

      one : (ks : List ℕ) → selected v.count name ≡ Some ks → (b : Bool) →
          AsksIf t made.Selected (if b then (Other true) else Vectors (vector v.of (length ks)) r) (marking m others)
      one ks h true = tt
      one ks h false = λ of x c l. f of x (selected_at t (marking m others) c) (λ i. each ks h c l)

      by : (o : Option (List ℕ)) → selected v.count name ≡ o →
          AsksIf t made.Selected (several v r o) (marking m others)
      by None h = tt
      by (Some ks) h = one ks h (nat_eq (length ks) 1)

  pub postfix_asks : (s : Option (List ℕ)) (o : Option Postfix) (t : Syntax) (m : Mark) (others : Marks) →
      selection_in (word_of t) ≡ s → Alone m →
      AsksIf t (made_by_selection s) (postfix_kind s o (kind_at m)) (marking m others)
  postfix_asks None o t m others e f = element_asks t (postfix_kind None o (kind_at m)) (marking m others)
  postfix_asks (Some name) o t m others e f = selection_asks t name m others e f

  pub joined_asks : (o : Option Bin) (t : Syntax) (a b : Mark) → fits (kind_at a) (kind_at b) ≡ true → Alone a →
      Alone b → AsksIf t (made_by_operator o) (joined_kind o (kind_at a) (kind_at b)) (marking a (marking b unmarked))
  joined_asks None t a b e f g = tt
  joined_asks (Some op) t a b e f g = by (is_vector k) refl
    where
      k : Kind
      k = joined_kind (Some op) (kind_at a) (kind_at b)

      by : (c : Bool) → is_vector k ≡ c → Asks asked env (if c then made.Joined op else made.Number) t k
          (marking a (marking b unmarked))
      by false x = tt
      by true x =
          let s = shows op (kind_at a) (kind_at b) x e in
          subst (λ n. Operand asked env (λ c. c) n a × Operand asked env (λ c. c) n b) (sym s.joined)
          (operand_fits a s.width s.first f, operand_fits b s.width s.second g)

  -- ---- calls

  wide_same : (v : Vector) (r : Reach) (k : Kind) → agrees (Vectors v r) k ≡ true → Wide v.count k
  wide_same v r (Vectors u s) h = same_count v u h
  wide_same v r (Pointer s c u) h = tt
  wide_same v r (Other b) h = tt

  pub every_fits : (v : Vector) (r : Reach) (ms : Marks) → all_agree (Vectors v r) ms ≡ true → AllAlone ms →
      Every asked env v.count ms
  every_fits v r unmarked h g = tt
  every_fits v r (marking m ms) h g =
      let b = both_true (agrees (Vectors v r) (kind_at m)) (all_agree (Vectors v r) ms) h in
      (operand_fits m v.count (wide_same v r (kind_at m) b.0) g.0, every_fits v r ms b.1 g.1)

call_shows : (o : Option Intrinsic) (z : Kind) → is_vector (called_kind o z) ≡ true →
    (f : Fun) × (v : Vector) × (r : Reach) × (o ≡ Some (intrinsics.Function f)) × (z ≡ Vectors v r)
call_shows (Some (intrinsics.Function f)) (Vectors v r) h = (f, v, r, refl, refl)
call_shows o z h = absurd (false≢true h)

pub call_asks : (asked : Asked) (env : Env) (t : Syntax) (ms : Marks) →
    (is_vector (called_kind (intrinsic_in (name_in (word_of t))) (vector_among ms)) &&
    not (all_agree (vector_among ms) ms)) ≡ false → CallsKnown env (name_in (word_of t)) (many_in ms) →
    AllAlone asked (in_arguments env (name_in (word_of t))) ms →
    AsksIf asked env t made.Called (called_kind (intrinsic_in (name_in (word_of t))) (vector_among ms)) ms
call_asks asked env t ms e h g = by (is_vector k) refl e
  where
    name : List ℕ
    name = name_in (word_of t)

    k : Kind
    k = called_kind (intrinsic_in name) (vector_among ms)

    by : (c : Bool) → is_vector k ≡ c → (c && not (all_agree (vector_among ms) ms)) ≡ false →
        Asks asked env (if c then made.Called else made.Number) t k ms
    by false x e = tt
    by true x e =
        let q = call_shows (intrinsic_in name) (vector_among ms) x in
        let known = h q.0 q.3 in
        let same = subst (λ z. all_agree z ms ≡ true) q.4 (not_false (all_agree (vector_among ms) ms) e) in
        let wide : count_in k ≡ q.1.count =
        ap (λ z. count_in (called_kind z (vector_among ms))) q.3 ∙
        ap (λ z. count_in (called_kind (Some (intrinsics.Function q.0)) z)) q.4 in record {
          function = q.0;
          callee = known.0;
          arity = known.1;
          arguments = subst (λ n. Every asked (in_arguments env name) n ms) (sym wide)
              (every_fits asked (in_arguments env name) q.1 q.2 ms same g);
        }

-- ---- casts

-- a vector type with a list behind it
typed_by : (v : Vector) (o : Option Vector) (b : Bool) → o ≡ Some v →
    (is_some o && not (is_typed (if b then Typed else Free))) ≡ false → b ≡ true
typed_by v o true e h = refl
typed_by v o false e h =
    absurd (false≢true (sym (subst (λ z. (is_some z && not (is_typed Free)) ≡ false) e h)))

pub cast_asks : (asked : Asked) (env : Env) (w tw : List ℕ) (f l tf tl : ℕ) (ps tps : Forest) (k : Kind) (tms : Marks)
    (p : Mark) → NoneRefused (mark (node forms.CastNode w f l ps) (cast_kind (vector_in tw))
    (marking (mark (node forms.TypeNode tw tf tl tps) k tms) (marking p unmarked))) →
    ((v : Vector) → is_paren (form_of (tree_at p)) ≡ true → inside_fills v p ≡ true → InList asked env v.count p) →
    AsksIf asked env (node forms.CastNode w f l ps) made.Listed (cast_kind (vector_in tw))
    (marking (mark (node forms.TypeNode tw tf tl tps) k tms) (marking p unmarked))
unfolding misplaced role_of types_differ refusals_in
cast_asks asked env w tw f l tf tl ps tps k tms p r g = by (vector_in tw) refl
  where
    type : Mark
    type = mark (node forms.TypeNode tw tf tl tps) k tms

    ms : Marks
    ms = marking type (marking p unmarked)

    t : Syntax
    t = node forms.CastNode w f l ps

    by : (o : Option Vector) → vector_in tw ≡ o → AsksIf asked env t made.Listed (cast_kind o) ms
    by None e = tt
    by (Some v) e =
        let n = node_fits r.0 t (cast_kind (vector_in tw)) ms r.1 in
        let role = role_of r.0 (mark t (cast_kind (vector_in tw)) ms) true false type in
        let d = none_of (refusals role type)
        (refusals_in r.0 (mark t (cast_kind (vector_in tw)) ms) false (marking p unmarked)) n.0 in
        let listed : is_list_cast ms ≡ true = typed_by v (vector_in tw) (is_list_cast ms) e
        (node_fits role (node forms.TypeNode tw tf tl tps) k tms d.0).1 in
        let pe = (both_true (is_some (vector_in tw)) (is_paren (form_of (tree_at p))) listed).1 in
        let full : cast_fills (vector_in tw) ms ≡ true = not_false (cast_fills (vector_in tw) ms)
        (subst (λ b. (b && not (cast_fills (vector_in tw) ms)) ≡ false) listed n.2) in
        subst (λ b. Either b (InList asked env v.count p) ⊥) (sym pe)
        (g v pe (subst (λ z. cast_fills z ms ≡ true) e full))
