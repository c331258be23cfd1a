-- The lines of a vector variable with its initialiser are at fault at no node where its plain form is not.
use Rattle.std.proofs.Common.{◌≡◌, ℕ, zero, suc, ◌+◌, ◌≤◌, ◌<◌, ◌^◌, Bool, true, false, List, [], ◌∷◌, ◌++◌, map}
use Rattle.std.proofs.Common.{length, Option}
use Rattle.std.proofs.Common.{Some, None, if◌then◌else◌, refl, ap, sym, ◌∙◌, subst, inl, inr, ◌⊎◌, arith}
use Rattle.std.proofs.lemmas.Bool.{false≢true}
use Rattle.std.specs.Str.{bytes_eq}
use lib.Pointwise.{bytes_decides}
use Rattle.cl_model.specs.Lists.{Each, IsOneOf, AllDiffer}
use Rattle.cl_model.specs.declared.program.VarKind.{VarKind}
use Rattle.cl_tree.specs.Syntax.{Syntax, first_of, last_of}
use Rattle.cl_meaning.specs.Spelling.{is_const}
use Rattle.cl_meaning.specs.Types.{space_among}
use Rattle.cl_meaning.specs.Declarations.{word_of, parts_of, with_variable}
use Rattle.cl_meaning.specs.declared.kind.Meaning.TheVariants as meanings
use Rattle.cl_meaning.specs.declared.kind.Role.TheVariants as roles
use Rattle.cl_meaning.specs.Environment.{Env, Array, Table, is_declared}
use Rattle.cl_meaning.specs.Faults.{Asked}
use Rattle.cl_check_sound.specs.Shape.{IsType, IsExpressionOf}
use Rattle.cl_check_sound.specs.Sound.{SoundTree}
use Rattle.cl_short_vec.specs.declared.types.Vector.{Vector}
use Rattle.cl_short_vec.specs.declared.kinds.Reach.TheVariants.{Value, Variable}
use Rattle.cl_short_vec.specs.declared.kinds.Kind.{Kind}
use Rattle.cl_short_vec.specs.declared.kinds.Kind.TheVariants.{Vectors, Pointer, Other}
use Rattle.cl_short_vec.specs.declared.roles.Role.TheVariants.{Used}
use Rattle.cl_short_vec.specs.Types.{numbers, vector_type}
use Rattle.cl_short_vec.specs.Kinds.{Names, with_name}
use Rattle.cl_short_vec.specs.Marks.{Mark, tree_at, kind_at, marked}
use Rattle.cl_short_vec.specs.Faults.{refusals, agrees}
use Rattle.cl_short_vec.specs.Nodes.{component_name}
use Rattle.cl_short_vec.specs.Order.{Named, Step, steps_of, sets, initial_steps}
use Rattle.cl_short_vec.specs.Parts.{Assigned, assigned_part}
use Rattle.cl_short_vec.specs.Unit.{lines_of, name_span, declared_name, declarator_lines}
use Rattle.cl_short_vec.proofs.Small.{SmallVector, type_small, marked_small}
use Rattle.cl_short_vec_faults.specs.PlainForm.{plain_of}
use Rattle.cl_short_vec_faults.specs.Plainly.{has_point, unnumbered, meant_by, StandsAlike, width_in, NoPoint}
use Rattle.cl_short_vec_faults.specs.Plainly.{Plainly}
use Rattle.cl_short_vec_faults.specs.Lines.{IsNumberLeaf, InOrder, TokenOf, InRange, InBlock, IsOwnSpace}
use Rattle.cl_short_vec_faults.specs.Lines.{InitialFollows}
use Rattle.cl_short_vec_faults.proofs.LineKeeps.{step_name}
use Rattle.cl_short_vec_faults.specs.Lines.{InitialsFollow}
use Rattle.cl_short_vec_faults.proofs.Points.{front_blank}
use Rattle.cl_short_vec_faults.proofs.PartNodes.{GoodNumber}
use Rattle.cl_short_vec_faults.proofs.PartCalls.{AllCallsKnown, calls_known}
use Rattle.cl_short_vec_faults.proofs.PartShown.{each_split}
use Rattle.cl_short_vec_faults.proofs.PartFits.{Wide, same_count, has_wide}
use Rattle.cl_short_vec_faults.proofs.PartTrees.{shown}
use Rattle.cl_short_vec_faults.proofs.LineWords.{declared_with}
use Rattle.cl_short_vec_faults.proofs.LineAdds.{Adds, adds_itself, adds_other, variable_adds}
use Rattle.cl_short_vec_faults.proofs.LineSeen.{typed_by, alike_typed, alike_callee, stands_moved}
use Rattle.cl_short_vec_faults.proofs.LineOrders.{initial_ordered}
use Rattle.cl_short_vec_faults.proofs.LineSteps.{behind_lines, lines_parts, lines_append, behind_append, parts_behind}
use Rattle.cl_short_vec_faults.proofs.LineSteps.{AllFresh, DoneAt, each_done, each_helped, Stage, Leaves}
use Rattle.cl_short_vec_faults.proofs.LineSteps.{leaves_sound}
use Rattle.cl_short_vec_faults.proofs.LineFitTrees.{fits_in}
use Rattle.cl_short_vec_faults.proofs.LineInitials.{component_apart, components_apart, VectorType, vector_typed}
use Rattle.cl_short_vec_faults.proofs.LineInitials.{calls_moved, all_typed, Sets, sets_start, sets_callee, each_onto}
use Rattle.cl_short_vec_faults.proofs.LineInitials.{component_lines}
use Rattle.cl_short_vec_faults.proofs.LineKeeps.{is_helping, component_head}
use Rattle.cl_short_vec_faults.proofs.LineNames.{differ_append, components_differ, numbers_differ}
use Rattle.cl_short_vec_faults.proofs.LineNames.{numbers_small, each_among, among_apart}
use Rattle.cl_short_vec_faults.proofs.LineTokens.{marked_in_order, tree_marked, steps_ranged}
use Rattle.cl_short_vec_faults.proofs.Operands.{small_names}

-- ---- lists

map_append : (f : Step → List ℕ) (xs ys : List Step) → map f (xs ++ ys) ≡ map f xs ++ map f ys
map_append f [] ys = refl
map_append f (x ∷ xs) ys = ap (λ z. f x ∷ z) (map_append f xs ys)

differ_tail : (xs ys : List (List ℕ)) → AllDiffer (xs ++ ys) → AllDiffer ys
differ_tail [] ys h = h
differ_tail (x ∷ xs) ys h = differ_tail xs ys h.1

one_left : (xs ys : List (List ℕ)) (r : List ℕ) → IsOneOf xs r → IsOneOf (xs ++ ys) r
one_left [] ys r i = absurd i
one_left (x ∷ xs) ys r (inl e) = inl e
one_left (x ∷ xs) ys r (inr i) = inr (one_left xs ys r i)

one_right : (xs ys : List (List ℕ)) (r : List ℕ) → IsOneOf ys r → IsOneOf (xs ++ ys) r
one_right [] ys r i = i
one_right (x ∷ xs) ys r i = inr (one_right xs ys r i)

numbers_many : (first n : ℕ) → length (numbers first 1 n) ≡ n
numbers_many first zero = refl
numbers_many first (suc n) = ap suc (numbers_many (first + 1) n)

number_among : (P : ℕ → Type 0) (n first c d : ℕ) → Each P (numbers first 1 n) → c < n → d ≡ first + c → P d
number_among P zero first c d h l e = absurd (omega arith)
number_among P (suc n) first zero d h l e = let same : first ≡ d = omega arith in subst P same h.0
number_among P (suc n) first (suc c) d h l e =
    number_among P n (first + 1) c d h.1 (omega arith) (omega arith)

-- ---- names

set_names : (x : Named) (cs : List ℕ) (j : ℕ) → map step_name (sets x cs j) ≡ map (component_name x.name) cs
set_names x [] j = refl
set_names x (c ∷ cs) j = ap (λ z. component_name x.name c ∷ z) (set_names x cs (suc j))

set_among : (x : Named) (cs : List ℕ) (j : ℕ) (q : List ℕ) → IsOneOf (map step_name (sets x cs j)) q →
    (c : ℕ) × (q ≡ component_name x.name c)
set_among x [] j q i = absurd i
set_among x (c ∷ cs) j q (inl e) = (c, sym e)
set_among x (c ∷ cs) j q (inr i) = set_among x cs (suc j) q i

each_of : (P : List ℕ → Type 0) (xs : List (List ℕ)) → ((q : List ℕ) → IsOneOf xs q → P q) → Each P xs
each_of P [] h = tt
each_of P (x ∷ xs) h = (h x (inl refl), each_of P xs (λ q i. h q (inr i)))

-- a component's name begins as the variable's, and the name of a helping variable with a point
head_of : (x : List ℕ) (cs : List ℕ) (q : List ℕ) → has_point x ≡ false → (x ≡ [] → ⊥) →
    IsOneOf (map (component_name x) cs) q → is_helping q ≡ false
head_of x [] q p n i = absurd i
head_of x (c ∷ cs) q p n (inl e) = sym (ap is_helping e) ∙ component_head x c p n
head_of x (c ∷ cs) q p n (inr i) = head_of x cs q p n i

token_begins : (i : ℕ) (q : List ℕ) → TokenOf i q → is_helping q ≡ true
token_begins i q (inl e) = ap is_helping e
token_begins i q (inr e) = ap is_helping e.1

token_head : (f l : ℕ) (qs : List (List ℕ)) (q : List ℕ) → Each (InRange f l) qs → IsOneOf qs q → is_helping q ≡ true
token_head f l [] q h i = absurd i
token_head f l (p ∷ qs) q h (inl e) = sym (ap is_helping e) ∙ token_begins h.0.0 p h.0.3
token_head f l (p ∷ qs) q h (inr i) = token_head f l qs q h.1 i

-- ---- kinds

wide_value : (v : Vector) (k : Kind) → agrees (Vectors v Value) k ≡ true → Wide v.count k
wide_value v (Vectors u s) h = same_count v u h
wide_value v (Pointer s c u) h = tt
wide_value v (Other b) h = tt

count_small : (o : Option Vector) (v : Vector) → o ≡ Some v → SmallVector o → v.count ≤ 16
count_small o v e h = subst SmallVector e h

-- ---- a declaration

module _ (asked : Asked) (names : Names) (plain form : Env) (v : Vector) (t e : Syntax) (d : Mark)
    (b : InBlock asked names plain form) (ht : IsType t) (hv : vector_type t ≡ Some v)
    (own : IsOwnSpace (space_among (parts_of t))) (he : IsExpressionOf true e) (ne : NoPoint e)
    (re : refusals Used (marked names e) ≡ []) (same : agrees (Vectors v Value) (kind_at (marked names e)) ≡ true)
    (so : SoundTree asked plain roles.Other (plain_of e)) where
  abbrev x : Named
  x = declared_name (tree_at d)

  abbrev n : Mark
  n = marked names e

  abbrev type : Mark
  type = marked names t

  abbrev ss : List Step
  ss = steps_of v.of n

  abbrev st : List Step
  st = sets x (numbers 0 1 v.count) 0

  abbrev what : Assigned
  what = record { operator = None; of = v.of; target = name_span (tree_at d); components = []; value = n }

  abbrev constant : Bool
  constant = is_const (word_of t)

  typed : VectorType asked names t v
  typed = vector_typed asked names t v ht hv

  first_stage : Stage asked names plain (b.give, b.alone) b.nameless form []
  first_stage = record { alike = b.alike; inner = b.inner; all = tt }

  leaf_lines : Each (IsNumberLeaf plain) (initial_steps v x n) → AllDiffer (map step_name (initial_steps v x n)) →
      AllFresh form (map step_name (initial_steps v x n)) →
      Leaves asked names plain (b.give, b.alone) b.nameless form (Some type) what ss [] (map step_name st)
  leaf_lines nums differ fresh =
      let m = map_append step_name ss st in
      leaves_sound asked names plain (b.give, b.alone) b.nameless form (Some type) what ss [] (map step_name st) first_stage
      ((fits_in asked names plain form b.alike b.give b.alone b.unflagged e he ne so).steps false v.of Used refl re
      (each_split (IsNumberLeaf plain) ss st nums).0) (initial_ordered v n) (subst (AllFresh form) m fresh)
      (subst AllDiffer m differ)

  module _ (env : Env) (alike : Plainly names plain env) where
    calls : AllCallsKnown env e
    calls = calls_known asked names plain env alike b.alone e plain he ne (λ q. refl) so

    values : (to : Env) (ds : List ℕ) → Sets env to x.name v.of constant ds → Each (DoneAt to) ss → (i : ℕ) → 0 ≤ i →
        i < 0 + length (numbers 0 1 v.count) →
        GoodNumber asked (typed_by to (declared_with (space_among (parts_of t)) constant v.of)) (assigned_part what i)
    values to ds s done i l u =
        let dd = declared_with (space_among (parts_of t)) constant v.of in
        let moved = calls_moved env to (λ q k. sets_callee env to x.name v.of constant ds s q k) e ne calls in
        let z = shown asked to e names (typed_by to dd) he moved (λ q. alike_callee to (typed_by to dd)
        (alike_typed to dd) q) (Used, re) in
        let less : i < v.count = subst (λ k. i < k) (numbers_many 0 v.count) (omega (arith, u)) in
        z.operand v.of (all_typed to dd ss (each_helped to ss done)) i
        (λ w. has_wide v.count i (kind_at n) (wide_value v (kind_at n) same) less w)

  -- the names that the lines declare
  names_differ : has_point x.name ≡ false → (x.name ≡ [] → ⊥) → InOrder e → last_of e < 2 ^ 64 →
      AllDiffer (map step_name (initial_steps v x n))
  names_differ point named order end =
      let cs = numbers 0 1 v.count in
      let small = count_small (vector_type t) v hv (type_small t) in
      let o = marked_in_order e names order in
      let l : last_of (tree_at n) < 2 ^ 64 = subst (λ z. last_of z < 2 ^ 64) (sym (tree_marked e names)) end in
      let value = steps_ranged n false v.of o (marked_small e names (small_names names plain form b.alike)) l in
      let set = set_names x cs 0 in
      subst AllDiffer (sym (map_append step_name ss st)) (differ_append (map step_name ss) (map step_name st) value.1
      (subst AllDiffer (sym set) (components_differ x.name cs (numbers_small 0 v.count (omega (arith, small)))
      (numbers_differ 0 v.count))) (λ q i j. false≢true (sym (head_of x.name cs q point named
      (subst (λ z. IsOneOf z q) set j)) ∙ token_head (first_of (tree_at n)) (last_of (tree_at n)) (map step_name ss) q
      value.0 i)))

  -- each is that of a helping variable of a token of the initialiser, or of a component of the variable
  pub names_among : InOrder e → last_of e < 2 ^ 64 → (q : List ℕ) → IsOneOf (map step_name (initial_steps v x n)) q →
      InRange (first_of e) (last_of e) q ⊎ ((c : ℕ) × (q ≡ component_name x.name c))
  names_among order end q i = by (among_apart (map step_name ss) (map step_name st) q
      (subst (λ z. IsOneOf z q) (map_append step_name ss st) i))
    where
      l : last_of (tree_at n) < 2 ^ 64
      l = subst (λ z. last_of z < 2 ^ 64) (sym (tree_marked e names)) end

      by : IsOneOf (map step_name ss) q ⊎ IsOneOf (map step_name st) q →
          InRange (first_of e) (last_of e) q ⊎ ((c : ℕ) × (q ≡ component_name x.name c))
      by (inl j) = inl (subst (λ z. InRange (first_of z) (last_of z) q) (tree_marked e names)
          (each_among (InRange (first_of (tree_at n)) (last_of (tree_at n))) (map step_name ss) q
          (steps_ranged n false v.of (marked_in_order e names order)
          (marked_small e names (small_names names plain form b.alike)) l).0 j))
      by (inr j) = inr (set_among x (numbers 0 1 v.count) 0 q j)

  not_among : InOrder e → last_of e < 2 ^ 64 → (q : List ℕ) → (InRange (first_of e) (last_of e) q → ⊥) →
      ((c : ℕ) → q ≡ component_name x.name c → ⊥) → IsOneOf (map step_name (initial_steps v x n)) q → ⊥
  not_among order end q k u i = by (names_among order end q i)
    where
      by : InRange (first_of e) (last_of e) q ⊎ ((c : ℕ) × (q ≡ component_name x.name c)) → ⊥
      by (inl r) = k r
      by (inr r) = u r.0 r.1

  -- they are new where no name of such a token and no component of the variable is declared
  pub names_fresh : InOrder e → last_of e < 2 ^ 64 →
      ((q : List ℕ) → InRange (first_of e) (last_of e) q → is_declared form q ≡ false) →
      ((c : ℕ) → is_declared form (component_name x.name c) ≡ false) →
      AllFresh form (map step_name (initial_steps v x n))
  names_fresh order end g k = each_of (λ q. is_declared form q ≡ false) (map step_name (initial_steps v x n))
      (λ q i. by q (names_among order end q i))
    where
      by : (q : List ℕ) → InRange (first_of e) (last_of e) q ⊎ ((c : ℕ) × (q ≡ component_name x.name c)) →
          is_declared form q ≡ false
      by q (inl r) = g q r
      by q (inr r) = subst (λ z. is_declared form z ≡ false) (sym r.1) (k r.0)

  -- ---- what is visible behind the lines

  module _ (point : has_point x.name ≡ false) (env to : Env)
      (alike : Plainly names plain env) (s : Sets env to x.name v.of constant (numbers 0 1 v.count)) (token number : ℕ)
      (kind : VarKind) where
    abbrev plain' : Env
    plain' = with_variable plain x.name token kind (meanings.Scalar v.of constant number)

    plain_adds : Adds plain plain' x.name (meanings.Scalar v.of constant number)
    plain_adds = variable_adds plain x.name token kind (meanings.Scalar v.of constant number)
        (let l = subst (λ z. 2 ≤ z) b.alike.depth b.inner in omega (arith, l))

    itself : StandsAlike (Vectors v Variable) x.name plain' to
    itself = (
      constant,
      ap unnumbered (adds_itself plain plain' x.name (meanings.Scalar v.of constant number) plain_adds),
      λ c l. number_among (λ k. meant_by to (component_name x.name k) ≡ Some (meanings.Scalar v.of constant 0))
          v.count 0
          c c s.there l (omega arith),
    )

    other : (q : List ℕ) → has_point q ≡ false → bytes_eq x.name q ≡ false → StandsAlike (names q) q plain' to
    other q u k = stands_moved (names q) q plain env plain' to
        (adds_other plain plain' x.name (meanings.Scalar v.of constant number) plain_adds q k)
        (s.others q (λ c. component_apart x.name q c u))
        (λ c. s.others (component_name q c) (λ z. components_apart x.name q z c point u k)) (alike.names' q u)

    pub plainly_declared : Plainly (with_name names x.name (Vectors v Variable)) plain' to
    plainly_declared = record {
      functions = s.functions ∙ alike.functions ∙ sym plain_adds.functions;
      owner = s.owner ∙ alike.owner ∙ sym plain_adds.owner;
      declared = s.before ∙ alike.declared ∙ sym plain_adds.before;
      flags = s.flags ∙ alike.flags ∙ sym plain_adds.flags;
      outside = plain_adds.flags ∙ alike.outside;
      in_body = s.body ∙ alike.in_body ∙ sym plain_adds.body;
      in_loop = s.loops ∙ alike.in_loop ∙ sym plain_adds.loops;
      in_switch = s.switches ∙ alike.in_switch ∙ sym plain_adds.switches;
      labels = s.labels ∙ alike.labels ∙ sym plain_adds.labels;
      depth = s.scopes ∙ alike.depth ∙ sym plain_adds.scopes;
      arrays = ap (λ (z : List Array). length z) s.arrays ∙ alike.arrays ∙
          sym (ap (λ (z : List Array). length z) plain_adds.arrays);
      tables = ap (λ (z : List Table). length z) s.tables ∙ alike.tables ∙
          sym (ap (λ (z : List Table). length z) plain_adds.tables);
      names' = λ q u. by q u (bytes_eq x.name q) refl;
      narrow = λ q. narrow_by (bytes_eq x.name q) q;
    }
      where
        by : (q : List ℕ) → has_point q ≡ false → (c : Bool) → bytes_eq x.name q ≡ c →
            StandsAlike (if c then Vectors v Variable else names q) q plain' to
        by q u true k = subst (λ z. StandsAlike (Vectors v Variable) z plain' to) ((bytes_decides x.name q).0 k) itself
        by q u false k = other q u k

        narrow_by : (c : Bool) (q : List ℕ) → width_in (if c then Vectors v Variable else names q) ≤ 16
        narrow_by true q = count_small (vector_type t) v hv (type_small t)
        narrow_by false q = alike.narrow q

  pub initial_sound : has_point x.name ≡ false → Each (IsNumberLeaf plain) (initial_steps v x n) → InOrder e →
      last_of e < 2 ^ 64 →
      AllDiffer (map step_name (initial_steps v x n)) → AllFresh form (map step_name (initial_steps v x n)) →
      InitialFollows asked names plain form v x.name constant (first_of e) (last_of e)
      (declarator_lines v type d (Some n))
  initial_sound point nums order end differ fresh =
      let m = map_append step_name ss st in
      let leaves = leaf_lines nums differ fresh in
      let env = behind_lines form (lines_of (Some type) what ss) in
      let done = (each_done (DoneAt env) ss [] leaves.stage.all).0 in
      let cs = numbers 0 1 v.count in
      let r = component_lines asked names type t v typed refl own what x (front_blank (word_of (tree_at d))) env ss cs
      0 []
      env (sets_start env x.name v.of constant) leaves.stage.inner done leaves.fresh
      (differ_tail (map step_name ss) (map step_name st) (subst AllDiffer m differ)) (values env leaves.stage.alike) in
      let to = behind_lines env (lines_of (Some type) what st) in
      let lines = lines_of (Some type) what (ss ++ st) in
      let there = (each_onto (λ c. meant_by to (component_name x.name c) ≡ Some (meanings.Scalar v.of constant 0)) cs []
      r.sets'.there).0 in
      let s : Sets env to x.name v.of constant cs = record {
        functions = r.sets'.functions;
        tables = r.sets'.tables;
        arrays = r.sets'.arrays;
        owner = r.sets'.owner;
        before = r.sets'.before;
        flags = r.sets'.flags;
        body = r.sets'.body;
        loops = r.sets'.loops;
        switches = r.sets'.switches;
        labels = r.sets'.labels;
        scopes = r.sets'.scopes;
        others = r.sets'.others;
        there = there;
      } in
      let at = λ (front : Bool). parts_behind form front lines ∙ behind_append form (Some type) what ss st in record {
        sound = λ z. lines_parts asked form z lines (lines_append asked form (Some type) what ss st leaves.sound
            r.sound);
        plainly = λ front token number kind.
            subst (Plainly (with_name names x.name (Vectors v Variable))
            (with_variable plain x.name token kind (meanings.Scalar v.of constant number))) (sym (at front))
            (plainly_declared point env to leaves.stage.alike s token number kind);
        others = λ front q k u. ap (λ z. is_declared z q) (at front) ∙
            r.kept q (λ i. not_among order end q k u (subst (λ z. IsOneOf z q) (sym m)
            (one_right (map step_name ss) (map step_name st) q i))) ∙
            leaves.kept q (λ i. not_among order end q k u (subst (λ z. IsOneOf z q) (sym m)
            (one_left (map step_name ss) (map step_name st) q i)));
      }

pub initials_follow : InitialsFollow
initials_follow asked names plain form v t e d b ht hv own point named he ne re same so order end nums g k =
    initial_sound asked names plain form v t e d b ht hv own he ne re same so point nums order end
    (names_differ asked names plain form v t e d b ht hv own he ne re same so point named order end)
    (names_fresh asked names plain form v t e d b ht hv own he ne re same so order end g k)
