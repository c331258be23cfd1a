-- Behind the lines of a vector variable with its initialiser, names and scopes go on side by side.
use Rattle.std.proofs.Common.{◌≡◌, ℕ, suc, ◌≤◌, ◌<◌, ◌^◌, List, [], ◌∷◌, ◌++◌, length, Option, None, Some, Bool, true}
use Rattle.std.proofs.Common.{false, if◌then◌else◌, refl, ap, sym, ◌∙◌, subst, arith, inl, inr}
use Rattle.std.proofs.lemmas.Bool.{false≢true}
use Rattle.std.specs.Prelude.{codes, decimal, ◌||◌}
use Rattle.std.specs.Str.{bytes_eq}
use lib.Pointwise.{bytes_decides}
use Rattle.cl_model.specs.Lists.{Each}
use Rattle.cl_model.specs.declared.program.Space.{Space}
use Rattle.cl_model.specs.declared.program.Space.TheVariants as spaces
use Rattle.cl_model.specs.declared.program.VarKind.TheVariants as var_kinds
use Rattle.cl_tree.specs.declared.tree.Form.TheVariants as forms
use Rattle.cl_tree.specs.Syntax.{Syntax, node, Forest, none, more, first_of, last_of}
use Rattle.cl_meaning.specs.Spelling.{name_in, is_const}
use Rattle.cl_meaning.specs.declared.kind.Meaning.{Meaning}
use Rattle.cl_meaning.specs.declared.kind.Meaning.TheVariants as meanings
use Rattle.cl_meaning.specs.declared.kind.Role.TheVariants as roles
use Rattle.cl_meaning.specs.Environment.{Env, Scope, with_entry, into_last, in_last, is_firm, is_declared}
use Rattle.cl_meaning.specs.Declarations.{word_of, firm}
use Rattle.cl_meaning.specs.Visible.{behind_parts, kind_of}
use Rattle.cl_meaning.specs.Faults.{Asked}
use Rattle.cl_check_sound.proofs.Grown.{SameOuter, each_append}
use Rattle.cl_short_vec.specs.declared.nodes.Span.{Span}
use Rattle.cl_short_vec.specs.declared.types.Vector.{Vector}
use Rattle.cl_short_vec.specs.declared.kinds.Reach.TheVariants.{Variable}
use Rattle.cl_short_vec.specs.declared.kinds.Kind.{Kind}
use Rattle.cl_short_vec.specs.declared.kinds.Kind.TheVariants.{Vectors, Pointer, Other}
use Rattle.cl_short_vec.specs.declared.roles.Role.TheVariants.{Used}
use Rattle.cl_short_vec.specs.Types.{numbers}
use Rattle.cl_short_vec.specs.Kinds.{Names, with_name, is_other, is_vector}
use Rattle.cl_short_vec.specs.Marks.{Mark, tree_at, marked}
use Rattle.cl_short_vec.specs.Nodes.{component_name, helper, declared_at}
use Rattle.cl_short_vec.specs.Order.{Step, Offset, Number, Copy, Load, Set, Store, Named, steps_of, sets}
use Rattle.cl_short_vec.specs.Order.{initial_steps}
use Rattle.cl_short_vec.specs.Parts.{Assigned, assigned_part}
use Rattle.cl_short_vec.specs.Scalar.{scalar}
use Rattle.cl_short_vec.specs.Unit.{declared_name, lines_of, line_of, declarator_lines}
use Rattle.cl_short_vec_faults.specs.PlainForm.{plain_of}
use Rattle.cl_short_vec_faults.specs.Plainly.{Plainly, has_point}
use Rattle.cl_short_vec_faults.specs.Beside.{has_bytes, IsName, ScopeBeside, ScopesBeside, Beside}
use Rattle.cl_short_vec_faults.specs.Leaves.{IsNumber, NumbersAmong}
use Rattle.cl_short_vec_faults.specs.Lines.{IsNumberLeaf, InOrder, PartsInOrder, InRange, TokenOf, InBlock, IsOwnSpace}
use Rattle.cl_short_vec_faults.specs.Lines.{InitialFollows, InitialsFollow}
use Rattle.cl_short_vec_faults.proofs.Ordered.{Ordered, OrderedIn, ordered_le, ordered_in_le}
use Rattle.cl_short_vec_faults.proofs.PlainForms.{plain_made}
use Rattle.cl_short_vec_faults.proofs.Points.{component_point}
use Rattle.cl_short_vec_faults.proofs.ConstantsSame.{type_same}
use Rattle.cl_short_vec_faults.proofs.PartShown.{each_split}
use Rattle.cl_short_vec_faults.proofs.LineAdds.{IsOwn, into_length, take_same}
use Rattle.cl_short_vec_faults.proofs.LineSeen.{Alike, tree_alike}
use Rattle.cl_short_vec_faults.proofs.LineSteps.{LeafFits}
use Rattle.cl_short_vec_faults.proofs.LineFitTrees.{fits_in}
use Rattle.cl_short_vec_faults.proofs.LineSets.{each_alike}
use Rattle.cl_short_vec_faults.proofs.NamesApart.{Apart, Begins, begins_apart, HelpingName}
use Rattle.cl_short_vec_faults.proofs.NamesApart.{helping_begins, helping_token, component_of_one, same_name}
use Rattle.cl_short_vec_faults.proofs.BesideNames.{but_begin, but_plain}
use Rattle.cl_short_vec_faults.proofs.BesideMoves.{beside_marked, scopes_later}
use Rattle.cl_short_vec_faults.proofs.OuterKept.{parts_kept}
use Rattle.cl_short_vec_faults.proofs.HolderParts.{all_sound_but}
use Rattle.cl_short_vec_faults.proofs.DeclaredNames.{variable_declares}
use Rattle.cl_short_vec_faults.proofs.PlainDeclarations.{tree_is}
use Rattle.cl_short_vec_faults.proofs.VectorVariables.{component_beside}
use Rattle.cl_short_vec_faults.proofs.InitialClaim.{Initial, InitialLinesFollow, behind_its_type, behind_initial}
use Rattle.cl_short_vec_faults.proofs.InitialClaim.{set_declarator}

-- ---- tokens in order

mutual
  in_order : (t : Syntax) → Ordered t → InOrder t
  in_order (node form w f l none) h = (h, tt)
  in_order (node form w f l (more p ps)) h =
      let a = ordered_le (node form w f l (more p ps)) h in
      let b = ordered_in_le ps (suc (last_of p)) (suc l) h.2 in
      (a, (h.0, (omega arith), in_order p h.1, parts_order ps (suc (last_of p)) l h.2))

  parts_order : (ps : Forest) (n l : ℕ) → OrderedIn n ps (suc l) → PartsInOrder n l ps
  parts_order none n l h = tt
  parts_order (more p ps) n l h =
      let b = ordered_in_le ps (suc (last_of p)) (suc l) h.2 in
      (h.0, (omega arith), in_order p h.1, parts_order ps (suc (last_of p)) l h.2)

-- ---- the type of the components

-- which names the type stood behind does not matter
lines_typed : (a b : Mark) (what : Assigned) (ss : List Step) → scalar a ≡ scalar b →
    lines_of (Some a) what ss ≡ lines_of (Some b) what ss
lines_typed a b what [] e = refl
lines_typed a b what (Offset m ∷ ss) e = ap (λ z. more (line_of (Some b) what (Offset m)) z) (lines_typed a b what ss e)
lines_typed a b what (Number of m ∷ ss) e =
    ap (λ z. more (line_of (Some b) what (Number of m)) z) (lines_typed a b what ss e)
lines_typed a b what (Copy of x c ∷ ss) e =
    ap (λ z. more (line_of (Some b) what (Copy of x c)) z) (lines_typed a b what ss e)
lines_typed a b what (Load m c ∷ ss) e =
    ap (λ z. more (line_of (Some b) what (Load m c)) z) (lines_typed a b what ss e)
lines_typed a b what (Set x c j ∷ ss) e =
    ap (λ t. more (declared_at x.span t (component_name x.name c) (more (assigned_part what j) none))
    (lines_of (Some a) what ss)) e ∙
    ap (λ z. more (line_of (Some b) what (Set x c j)) z) (lines_typed a b what ss e)
lines_typed a b what (Store m c j ∷ ss) e =
    ap (λ z. more (line_of (Some b) what (Store m c j)) z) (lines_typed a b what ss e)

own_space : (o : Option Space) → IsOwn o → IsOwnSpace o
own_space None h = tt
own_space (Some spaces.Private) h = tt
own_space (Some spaces.Global) h = absurd h
own_space (Some spaces.Constant) h = absurd h
own_space (Some spaces.Local) h = absurd h

-- ---- leaves

number_leaves : (plain : Env) (ss : List Step) → NumbersAmong plain ss → Each (IsNumberLeaf plain) ss
number_leaves plain [] h = tt
number_leaves plain (Offset m ∷ ss) h = (tt, number_leaves plain ss h)
number_leaves plain (Number of m ∷ ss) h = (h.0, number_leaves plain ss h.1)
number_leaves plain (Copy of x c ∷ ss) h = (tt, number_leaves plain ss h)
number_leaves plain (Load m c ∷ ss) h = (tt, number_leaves plain ss h)
number_leaves plain (Set x c j ∷ ss) h = (tt, number_leaves plain ss h)
number_leaves plain (Store m c j ∷ ss) h = (tt, number_leaves plain ss h)

fit_number : (asked : Asked) (names : Names) (plain : Env) (s : Step) → LeafFits asked names plain s →
    IsNumberLeaf plain s
fit_number asked names plain (Offset m) f = tt
fit_number asked names plain (Number of m) f =
    let t : tree_at m ≡ f.leaf.tree = ap tree_at f.leaf.marks ∙ tree_is names f.leaf.tree in
    subst IsNumber (sym (ap (λ z. kind_of plain (plain_of z)) t ∙ f.number)) refl
fit_number asked names plain (Copy of x c) f = tt
fit_number asked names plain (Load m c) f = tt
fit_number asked names plain (Set x c j) f = tt
fit_number asked names plain (Store m c j) f = tt

fit_numbers : (asked : Asked) (names : Names) (plain : Env) (ss : List Step) → Each (LeafFits asked names plain) ss →
    Each (IsNumberLeaf plain) ss
fit_numbers asked names plain [] h = tt
fit_numbers asked names plain (s ∷ ss) h = (fit_number asked names plain s h.0, fit_numbers asked names plain ss h.1)

-- the components that are set are no leaves
set_numbers : (plain : Env) (x : Named) (cs : List ℕ) (j : ℕ) → Each (IsNumberLeaf plain) (sets x cs j)
set_numbers plain x [] j = tt
set_numbers plain x (c ∷ cs) j = (tt, set_numbers plain x cs (suc j))

-- ---- names that the lines do not declare

token_begins : (i : ℕ) (r : List ℕ) → TokenOf i r → Begins r
token_begins i r h = helping_begins (record { first = i; last = i }) r h

begins_no_point : (r : List ℕ) → Begins r → has_point r ≡ false → ⊥
begins_no_point [] h e = false≢true h
begins_no_point (b ∷ r) h e = false≢true (sym e ∙ ap (λ z. z || has_point r) h)

begins_no_name : (q rest : List ℕ) → IsName q → Begins (q ++ rest) → ⊥
begins_no_name q rest i h = false≢true (sym (begins_apart (q ++ rest) q rest h i) ∙ same_name (q ++ rest))

-- the name is that of no helping variable of these tokens, and of no component of the variable
abbrev Far : (first last : ℕ) → List ℕ → List ℕ → Type 0
Far f l q r = (InRange f l r → ⊥) × ((c : ℕ) → r ≡ component_name q c → ⊥)

name_far : (f l : ℕ) (q r : List ℕ) → IsName r → Far f l q r
name_far f l q r i = (
  (λ h. begins_no_point r (token_begins h.0 r h.3) i.plain),
  (λ c e. false≢true (sym i.plain ∙ (ap has_point e ∙ component_point q c))),
)

component_far : (f l : ℕ) (q r : List ℕ) (c : ℕ) → IsName q → IsName r → Apart q r → Far f l q (component_name r c)
component_far f l q r c i j a = (
  (λ h. begins_no_name r (codes "." ++ decimal c) j (token_begins h.0 (component_name r c) h.3)),
  (λ k e. false≢true (sym a ∙ (bytes_decides q r).1 (sym (component_of_one r q c k j.plain i.plain e)))),
)

helping_far : (f l : ℕ) (q : List ℕ) (t : Span) (y : List ℕ) → IsName q → HelpingName t y → l < 2 ^ 64 → suc l ≤
    t.first →
    t.first < 2 ^ 64 → Far f l q y
helping_far f l q t y i h small le few = (
  (λ k. (let b = k.2 in let e = helping_token (record { first = k.0; last = k.0 }) t y y k.3 h (omega arith) few refl in
      absurd (omega arith))),
  (λ c e. begins_no_name q (codes "." ++ decimal c) i (subst Begins e (helping_begins t y h))),
)

-- ---- scopes

module _ (m f l : ℕ) (q : List ℕ) (i : IsName q) (small : l < 2 ^ 64) (le : suc l ≤ m) (mm : Meaning) where
  scope_lines : (s r r' : Scope) → ScopeBeside m s r →
      ((y : List ℕ) → Far f l q y → is_firm (r' y) ≡ is_firm (r y)) → ScopeBeside m (with_entry s q (firm mm)) r'
  scope_lines s r r' h o = record {
    declared = λ y j e. more' y (h.declared y j (sym (o y (name_far f l q y j)) ∙ e));
    components = λ y j c e. by y j c e (bytes_eq q y) refl;
    helps = λ t b k. o (helper t) (helping_far f l q t (helper t) i (inl refl) small (omega arith) k) ∙ h.helps t b k;
    parts = λ t b k c. o (component_name (helper t) c)
        (helping_far f l q t (component_name (helper t) c) i (inr (c, refl)) small (omega arith) k) ∙ h.parts t b k c;
  }
    where
      more' : (y : List ℕ) → is_firm (s y) ≡ true → is_firm (with_entry s q (firm mm) y) ≡ true
      more' y e = by (bytes_eq q y)
        where
          by : (b : Bool) → is_firm (if b then Some (firm mm) else s y) ≡ true
          by true = refl
          by false = e

      by : (y : List ℕ) → IsName y → (c : ℕ) → is_firm (r' (component_name y c)) ≡ true → (b : Bool) →
          bytes_eq q y ≡ b → is_firm (if b then Some (firm mm) else s y) ≡ true
      by y j c e true a = refl
      by y j c e false a =
          h.components y j c (sym (o (component_name y c) (component_far f l q y c i j a)) ∙ e)

  scopes_lines : (ss rs rs' : List Scope) → ScopesBeside m ss rs → SameOuter rs rs' →
      ((y : List ℕ) → Far f l q y → is_firm (in_last rs' y) ≡ is_firm (in_last rs y)) →
      ScopesBeside m (into_last ss q (firm mm)) rs'
  scopes_lines [] [] [] h k o = tt
  scopes_lines [] [] (r' ∷ rs') h k o = absurd k
  scopes_lines [] (r ∷ rs) rs' h k o = absurd h
  scopes_lines (s ∷ ss) [] rs' h k o = absurd h
  scopes_lines (s ∷ []) (r ∷ []) [] h k o = absurd k
  scopes_lines (s ∷ []) (r ∷ []) (r' ∷ []) h k o = (scope_lines s r r' h.0 o, tt)
  scopes_lines (s ∷ []) (r ∷ []) (r' ∷ (u ∷ us)) h k o = absurd k
  scopes_lines (s ∷ []) (r ∷ (v ∷ vs)) rs' h k o = absurd h.1
  scopes_lines (s ∷ (t ∷ ts)) (r ∷ []) rs' h k o = absurd h.1
  scopes_lines (s ∷ (t ∷ ts)) (r ∷ (v ∷ vs)) [] h k o = absurd k
  scopes_lines (s ∷ (t ∷ ts)) (r ∷ (v ∷ vs)) (r' ∷ []) h k o = absurd k
  scopes_lines (s ∷ (t ∷ ts)) (r ∷ (v ∷ vs)) (r' ∷ (u ∷ us)) h k o =
      (subst (ScopeBeside m s) (sym k.0) h.0, scopes_lines (t ∷ ts) (v ∷ vs) (u ∷ us) h.1 k.1 o)

-- helping variables of tokens from that one on are new
helping_new : (n : ℕ) (ss rs : List Scope) (t : Span) (y : List ℕ) → ScopesBeside n ss rs → HelpingName t y →
    n ≤ t.first → t.first < 2 ^ 64 → is_firm (in_last rs y) ≡ false
helping_new n [] [] t y h k a b = refl
helping_new n [] (r ∷ rs) t y h k a b = absurd h
helping_new n (s ∷ ss) [] t y h k a b = absurd h
helping_new n (s ∷ []) (r ∷ []) t y h (inl e) a b = ap (λ z. is_firm (r z)) e ∙ h.0.helps t a b
helping_new n (s ∷ []) (r ∷ []) t y h (inr (c, e)) a b = ap (λ z. is_firm (r z)) e ∙ h.0.parts t a b c
helping_new n (s ∷ []) (r ∷ (v ∷ vs)) t y h k a b = absurd h.1
helping_new n (s ∷ (u ∷ us)) (r ∷ []) t y h k a b = absurd h.1
helping_new n (s ∷ (u ∷ us)) (r ∷ (v ∷ vs)) t y h k a b = helping_new n (u ∷ us) (v ∷ vs) t y h.1 k a b

nameless : (asked : Asked) (names : Names) (n : ℕ) (p s : Env) → Beside asked names n p s → is_vector (names []) ≡ false
nameless asked names n p s h = by (names []) (h.named [])
  where
    by : (k : Kind) → (is_other k ≡ false → IsName []) → is_vector k ≡ false
    by (Vectors v r) g = absurd (false≢true (g refl).some)
    by (Pointer s c v) g = refl
    by (Other b) g = refl

-- ---- the lines

module _ (follow : InitialsFollow) (asked : Asked) (outer names : Names) (bound : ℕ) (plain form : Env) (v : Vector)
    (type : Syntax) (w : List ℕ) (f l : ℕ) (value : Syntax)
    (x : Initial asked names bound plain form v type w f l value) where
  abbrev d : Syntax
  d = set_declarator w f l value

  abbrev q : List ℕ
  q = name_in w

  abbrev n : Mark
  n = marked names value

  abbrev typed : Env
  typed = behind_its_type plain type

  to_plain : Alike typed plain
  to_plain = record { functions = refl; owner = refl; flags = refl; meanings = λ r. refl }

  abbrev ss : List Step
  ss = steps_of v.of n

  abbrev all : List Step
  all = initial_steps v (declared_name d) n

  typed_beside : Beside asked names bound typed (record form { declared = typed.declared })
  typed_beside = let y = x.beside.plainly in
      beside_marked asked names bound plain form typed (record form { declared = typed.declared }) refl refl refl refl
      y.owner refl y.flags x.beside.unflagged y.in_body y.in_loop y.in_switch y.labels y.arrays y.tables x.beside

  -- the leaves are numbers in front of the type too
  numbers_there : Each (IsNumberLeaf plain) all
  numbers_there =
      let st = sets (declared_name d) (numbers 0 1 v.count) 0 in
      let t = record form { declared = typed.declared } in
      let b = typed_beside in
      let fits = (fits_in asked names typed t b.plainly b.gives b.alone b.unflagged value x.shape x.no_point
      x.sound).steps
      false v.of Used refl x.stays (each_split (IsNumberLeaf typed) ss st (number_leaves typed all x.leaves)).0 in
      each_append (IsNumberLeaf plain) ss st
      (fit_numbers asked names plain ss (each_alike asked names typed plain to_plain ss fits))
      (set_numbers plain (declared_name d) (numbers 0 1 v.count) 0)

  in_block : InBlock asked names plain form
  in_block = record {
    alike = x.beside.plainly;
    give = x.beside.gives;
    alone = x.beside.alone;
    nameless = nameless asked names bound plain form x.beside;
    unflagged = x.beside.unflagged;
    inside = x.in_block;
    inner = subst (λ z. 2 ≤ z) (sym x.beside.plainly.depth) x.inside';
  }

  few_tokens : last_of value < 2 ^ 64
  few_tokens = let a = x.few in let b = x.ordered.2 in omega arith

  lines_here : InitialFollows asked names plain form v q (is_const (word_of type)) (first_of value) (last_of value)
      (declarator_lines v (marked names type) (marked names d) (Some n))
  unfolding marked
  lines_here =
      follow asked names plain form v type value (marked names d) in_block x.typed x.vector' (own_space _ x.own)
      x.name'.plain (λ e. false≢true (ap has_bytes (sym e) ∙ x.name'.some)) x.shape x.no_point
      x.stays x.same (tree_alike asked typed plain roles.Other (plain_of value) (plain_made value x.shape) to_plain
      x.sound).0 (in_order value x.ordered.1) few_tokens numbers_there
      (λ r i. helping_new bound plain.scopes form.scopes (record { first = i.0; last = i.0 }) r x.beside.scopes i.3
      (let a = x.behind' in let b = x.ordered.0 in let c = i.1 in omega arith)
      (let a = i.2 in let b = few_tokens in omega arith))
      (λ c. no_component c (is_declared form (component_name q c)) refl)
    where
      no_component : (c : ℕ) (b : Bool) → is_declared form (component_name q c) ≡ b → b ≡ false
      no_component c true e = absurd (false≢true (sym x.new ∙
          component_beside bound plain.scopes form.scopes q c x.beside.scopes x.name' e))
      no_component c false e = refl

  abbrev its_lines : Forest
  its_lines = declarator_lines v (marked outer type) (marked names d) (Some n)

  same_lines : declarator_lines v (marked names type) (marked names d) (Some n) ≡ its_lines
  same_lines = lines_typed (marked names type) (marked outer type) (record {
    operator = None;
    of = v.of;
    target = (declared_name (tree_at (marked names d))).span;
    components = [];
    value = n;
  }) (initial_steps v (declared_name (tree_at (marked names d))) n)
      (type_same names type x.typed ∙ sym (type_same outer type x.typed))

  lines_of_it : InitialFollows asked names plain form v q (is_const (word_of type)) (first_of value) (last_of value)
      its_lines
  lines_of_it = subst (InitialFollows asked names plain form v q (is_const (word_of type)) (first_of value)
      (last_of value)) same_lines lines_here

  abbrev mm : Meaning
  mm = meanings.Scalar v.of (is_const (word_of type)) (length plain.variables)

  abbrev next : Env
  next = behind_initial plain v type w f

  abbrev after : Env
  after = behind_parts form forms.BlockNode false its_lines

  plainly_after : Plainly (with_name names q (Vectors v Variable)) next after
  plainly_after = lines_of_it.plainly false f (length plain.variables) (var_kinds.Scalar v.of)

  -- the scopes are as many
  same_outer : SameOuter form.scopes after.scopes
  same_outer =
      let e = plainly_after.depth ∙ (into_length plain.scopes q (firm mm) ∙ sym x.beside.plainly.depth) in
      subst (SameOuter form.scopes) (take_same form.scopes after.scopes e)
      (parts_kept its_lines forms.BlockNode false form)

  beside_after : Beside asked (with_name names q (Vectors v Variable)) (suc l) next after
  beside_after =
      let a = x.behind' in
      let b = x.ordered.0 in
      let c = x.ordered.2 in
      let e = ordered_le d x.ordered in
      let i = but_plain asked names q bound plain form next mm (λ u r. refl)
      (variable_declares plain q f (var_kinds.Scalar v.of) mm) (but_begin asked names q bound plain form x.beside) in
      record {
        plainly = plainly_after;
        scopes = scopes_lines (suc l) (first_of value) (last_of value) q x.name' few_tokens c mm plain.scopes
            form.scopes
            after.scopes (scopes_later bound (suc l) plain.scopes form.scopes (omega arith) x.beside.scopes) same_outer
            (λ y h. lines_of_it.others false y h.0 h.1);
        open' = i.open';
        unflagged = x.beside.unflagged;
        gives = i.gives;
        alone = i.alone;
        named = λ r o. named_by r (bytes_eq q r) refl o;
      }
    where
      named_by : (r : List ℕ) (b : Bool) → bytes_eq q r ≡ b →
          is_other (if b then Vectors v Variable else names r) ≡ false → IsName r
      named_by r true a o = subst IsName ((bytes_decides q r).0 a) x.name'
      named_by r false a o = x.beside.named r o

-- the lines of a vector variable with its initialiser
pub initial_lines_follow : InitialsFollow → InitialLinesFollow
initial_lines_follow follow asked outer names bound plain form b v type w f l value x = (
  all_sound_but asked form forms.BlockNode b (its_lines follow asked outer names bound plain form v type w f l value x)
      ((lines_of_it follow asked outer names bound plain form v type w f l value x).sound b),
  beside_after follow asked outer names bound plain form v type w f l value x,
)
