-- A component of a node is at fault at no node and is a number, where those of its parts are and the helping
-- variables of its leaves are there.
use Rattle.std.proofs.Common.{◌≡◌, ℕ, zero, suc, ◌+◌, ◌<◌, List, [], ◌∷◌, ◌++◌, map, Some, Bool, true, false, refl, ap}
use Rattle.std.proofs.Common.{◌∙◌, subst, arith, if◌then◌else◌}
use Rattle.std.specs.Prelude.{nat_eq}
use Rattle.wg_num.specs.declared.types.IntType.{IntType}
use Rattle.wg_num.specs.declared.types.Fun.{Fun}
use Rattle.cl_model.specs.Lists.{Each}
use Rattle.cl_model.specs.Valid.{arity_of}
use Rattle.cl_tree.specs.Syntax.{Syntax}
use Rattle.cl_meaning.specs.Spelling.{name_in}
use Rattle.cl_meaning.specs.Declarations.{form_of, word_of}
use Rattle.cl_meaning.specs.declared.names.Intrinsic.TheVariants as intrinsics
use Rattle.cl_meaning.specs.Environment.{Env}
use Rattle.cl_meaning.specs.Kinds.{known, callee_of}
use Rattle.cl_meaning.specs.Visible.{in_arguments}
use Rattle.cl_meaning.specs.Faults.{Asked}
use Rattle.cl_short_vec.specs.declared.kinds.Reach.TheVariants.{Value, Variable, Element}
use Rattle.cl_short_vec.specs.declared.kinds.Kind.{Kind}
use Rattle.cl_short_vec.specs.declared.kinds.Kind.TheVariants.{Vectors, Pointer, Other}
use Rattle.cl_short_vec.specs.declared.made.Made.{Made}
use Rattle.cl_short_vec.specs.declared.made.Made.TheVariants as made
use Rattle.cl_short_vec.specs.Types.{numbers}
use Rattle.cl_short_vec.specs.Marks.{Mark, mark, Marks, unmarked, marking, tree_at, vector_among}
use Rattle.cl_short_vec.specs.Roles.{is_paren}
use Rattle.cl_short_vec.specs.Nodes.{span_of, signed_at}
use Rattle.cl_short_vec.specs.Order.{Step, Offset, Number, Copy, Load, Set, Store, type_in, count_in, named_by}
use Rattle.cl_short_vec.specs.Order.{steps_by}
use Rattle.cl_short_vec.specs.Order.{steps_in, all_steps, list_steps, inside_steps}
use Rattle.cl_short_vec.specs.Parts.{Given, part_by, part_in, item_part, front_part, second_part, all_parts, list_part}
use Rattle.cl_short_vec.specs.Parts.{inside_part, selected_at}
use Rattle.cl_short_vec_faults.specs.Parts.{StandsForPointer, HelpedBy}
use Rattle.cl_short_vec_faults.proofs.PartNodes.{GoodNumber, helper_number, helping_number, cast_number, signed_number}
use Rattle.cl_short_vec_faults.proofs.PartNodes.{component_number, AllNumbers, many, call_number}

-- ---- lists of steps

pub each_split : {A : Type 0} (P : A → Type 0) (xs ys : List A) → Each P (xs ++ ys) → Each P xs × Each P ys
each_split P [] ys h = (tt, h)
each_split P (x ∷ xs) ys h = let r = each_split P xs ys h.1 in ((h.0, r.0), r.1)

-- what holds of a step for each of some numbers holds of that for one of them
counted : (P : Step → Type 0) (step : ℕ → Step) (n first c d : ℕ) → Each P (map step (numbers first 1 n)) → c < n →
    d ≡ first + c → P (step d)
counted P step zero first c d h l e = absurd (omega arith)
counted P step (suc n) first zero d h l e =
    let same : first ≡ d = omega arith in subst (λ z. P (step z)) same h.0
counted P step (suc n) first (suc c) d h l e = counted P step n (first + 1) c d h.1 (omega arith) (omega arith)

pub one_of : (P : Step → Type 0) (step : ℕ → Step) (n c : ℕ) → Each P (map step (numbers 0 1 n)) → c < n → P (step c)
one_of P step n c h l = counted P step n 0 c c h l (omega arith)

-- helping variables are there in the arguments of a call too
pointer_inside : (k : Kind) (env : Env) (n q : List ℕ) → StandsForPointer k env q →
    StandsForPointer k (in_arguments env n) q
pointer_inside (Vectors v (Element s c)) env n q h = h
pointer_inside (Vectors v Value) env n q h = tt
pointer_inside (Vectors v Variable) env n q h = tt
pointer_inside (Pointer s c v) env n q h = tt
pointer_inside (Other b) env n q h = tt

helped_inside : (env : Env) (n : List ℕ) (s : Step) → HelpedBy env s → HelpedBy (in_arguments env n) s
helped_inside env n (Offset (mark t k ms)) h = pointer_inside k env n _ h
helped_inside env n (Number of m) h = h
helped_inside env n (Copy of x c) h = h
helped_inside env n (Load m c) h = h
helped_inside env n (Set x c j) h = h
helped_inside env n (Store m c j) h = h

all_inside : (env : Env) (n : List ℕ) (ss : List Step) → Each (HelpedBy env) ss → Each (HelpedBy (in_arguments env n))
    ss
all_inside env n [] h = tt
all_inside env n (s ∷ ss) h = (helped_inside env n s h.0, all_inside env n ss h.1)

-- ---- what is asked of parts

abbrev pub many_in : Marks → ℕ
many_in unmarked = 0
many_in (marking m ms) = suc (many_in ms)

abbrev pub Either : Bool → Type 0 → Type 0 → Type 0
Either true a b = a
Either false a b = b

-- a component that is there: a number has each
abbrev pub ThereBy : Made → ℕ → ℕ → Type 0
ThereBy made.Number n c = Unit {0}
ThereBy how n c = c < n

module _ (asked : Asked) where
  abbrev pub Helped : Env → List Step → Type 0
  Helped env steps = Each (HelpedBy env) steps

  -- the first components of an operand, each where it is
  abbrev pub Operand : Env → (at : ℕ → ℕ) → ℕ → Mark → Type 0
  Operand env at n m = (of : IntType) → Helped env (steps_in false of m) → (c : ℕ) → c < n →
      GoodNumber asked env (part_in false m (at c))

  abbrev pub Front : Env → (at : ℕ → ℕ) → ℕ → Marks → Type 0
  Front env at n unmarked = ⊥
  Front env at n (marking m ms) = Operand env at n m

  abbrev pub Second : Env → ℕ → Marks → Type 0
  Second env n unmarked = ⊥
  Second env n (marking m unmarked) = ⊥
  Second env n (marking m (marking p ps)) = Operand env (λ c. c) n p

  abbrev pub Every : Env → ℕ → Marks → Type 0
  Every env n unmarked = Unit {0}
  Every env n (marking m ms) = Operand env (λ c. c) n m × Every env n ms

  -- a list in parentheses
  abbrev pub InList : Env → ℕ → Mark → Type 0
  InList env n m = (of : IntType) → Helped env (inside_steps of m) → (c : ℕ) → c < n →
      GoodNumber asked env (inside_part m c)

  abbrev pub Lists : Env → ℕ → Marks → Type 0
  Lists env n unmarked = ⊥
  Lists env n (marking m ms) = Either (is_paren (form_of (tree_at m))) (InList env n m) (Lists env n ms)

  -- a function that is known without a declaration, and its arguments
  pub record Calling (env : Env) (q : List ℕ) (n : ℕ) (ms : Marks) : Type 0 where
    pub function : Fun
    pub callee : callee_of env q ≡ Some (known (intrinsics.Function function))
    pub arity : nat_eq (arity_of function) (many_in ms) ≡ true
    pub arguments : Every (in_arguments env q) n ms

  abbrev pub Asks : Env → Made → Syntax → Kind → Marks → Type 0
  Asks env made.Items t k ms = ⊥
  Asks env made.Inside t k ms = Front env (λ c. c) (count_in k) ms
  Asks env (made.Signed op) t k ms = Front env (λ c. c) (count_in k) ms
  Asks env made.Selected t k ms = Front env (selected_at t ms) (count_in k) ms
  Asks env (made.Joined op) t k ms = Front env (λ c. c) (count_in k) ms × Second env (count_in k) ms
  Asks env made.Called t k ms = Calling env (name_in (word_of t)) (count_in k) ms
  Asks env made.Listed t k ms = Lists env (count_in k) ms
  Asks env how t k ms = Unit {0}

  -- ---- components

  front_good : (env : Env) (at : ℕ → ℕ) (n : ℕ) (ms : Marks) (t : Syntax) (of : IntType) → Front env at n ms →
      Helped env (all_steps false of ms) → (c : ℕ) → c < n → GoodNumber asked env (front_part ms t (at c))
  unfolding front_part all_steps
  front_good env at n unmarked t of f h c l = absurd f
  front_good env at n (marking m ms) t of f h c l =
      f of (each_split (HelpedBy env) (steps_in false of m) (all_steps false of ms) h).0 c l

  second_good : (env : Env) (n : ℕ) (ms : Marks) (t : Syntax) (of : IntType) → Second env n ms →
      Helped env (all_steps false of ms) → (c : ℕ) → c < n → GoodNumber asked env (second_part ms t c)
  unfolding second_part all_steps
  second_good env n unmarked t of f h c l = absurd f
  second_good env n (marking m unmarked) t of f h c l = absurd f
  second_good env n (marking m (marking p ps)) t of f h c l =
      let r = each_split (HelpedBy env) (steps_in false of m) (all_steps false of (marking p ps)) h in
      f of (each_split (HelpedBy env) (steps_in false of p) (all_steps false of ps) r.1).0 c l

  every_good : (env : Env) (n : ℕ) (ms : Marks) (of : IntType) → Every env n ms →
      Helped env (all_steps false of ms) → (c : ℕ) → c < n → AllNumbers asked env (all_parts ms c)
  unfolding all_parts all_steps
  every_good env n unmarked of f h c l = tt
  every_good env n (marking m ms) of f h c l =
      let r = each_split (HelpedBy env) (steps_in false of m) (all_steps false of ms) h in
      (f.0 of r.0 c l, every_good env n ms of f.1 r.1 c l)

  parts_many : (ms : Marks) (c : ℕ) → many (all_parts ms c) ≡ many_in ms
  unfolding all_parts
  parts_many unmarked c = refl
  parts_many (marking m ms) c = ap suc (parts_many ms c)

  list_good : (env : Env) (n : ℕ) (ms : Marks) (t : Syntax) (of : IntType) → Lists env n ms →
      Helped env (list_steps of ms) → (c : ℕ) → c < n → GoodNumber asked env (list_part ms t c)
  unfolding list_part list_steps
  list_good env n unmarked t of f h c l = absurd f
  list_good env n (marking m ms) t of f h c l =
      let r = each_split (HelpedBy env) (inside_steps of m) (list_steps of ms) h in
      by (is_paren (form_of (tree_at m))) f r.0 (λ g. list_good env n ms t of g r.1 c l)
    where
      by : (b : Bool) → Either b (InList env n m) (Lists env n ms) → Helped env (inside_steps of m) →
          (Lists env n ms → GoodNumber asked env (list_part ms t c)) →
          GoodNumber asked env (if b then inside_part m c else list_part ms t c)
      by true g x k = g of x c l
      by false g x k = k g

  abbrev pub given_by : Marks → Syntax → Given
  given_by ms t = record {
    items = λ d. item_part ms t d;
    front = λ d. front_part ms t d;
    second = λ d. second_part ms t d;
    all = λ d. all_parts ms d;
    list = λ d. list_part ms t d;
  }

  pub node_good : (env : Env) (how : Made) (of : IntType) (t : Syntax) (k : Kind) (ms : Marks) → Asks env how t k ms →
      Helped env (steps_by how of (mark t k ms) (all_steps true of ms) (all_steps false (type_in (vector_among ms)) ms)
      (list_steps (type_in k) ms)) → (c : ℕ) → ThereBy how (count_in k) c →
      GoodNumber asked env (part_by how t k ms (given_by ms t) c)
  node_good env made.Number of t k ms a h c l = helper_number asked env (span_of t) h.0
  node_good env made.Items of t k ms a h c l = absurd a
  node_good env made.Variable of t k ms a h c l =
      helping_number asked env (span_of t) c (one_of (HelpedBy env) (Copy (type_in k) (named_by t)) (count_in k) c h l)
  node_good env made.Element of t k ms a h c l =
      helping_number asked env (span_of t) c (one_of (HelpedBy env) (Load (mark t k ms)) (count_in k) c h.1 l)
  node_good env made.Inside of t k ms a h c l =
      front_good env (λ d. d) (count_in k) ms t (type_in (vector_among ms)) a h c l
  node_good env (made.Signed op) of t k ms a h c l =
      let x = front_good env (λ d. d) (count_in k) ms t (type_in (vector_among ms)) a h c l in
      cast_number asked env (type_in k) (span_of t) (signed_at op (span_of t) (front_part ms t c))
      (signed_number asked env (span_of t) (front_part ms t c) x op)
  node_good env made.Selected of t k ms a h c l =
      front_good env (selected_at t ms) (count_in k) ms t (type_in (vector_among ms)) a h c l
  node_good env (made.Joined op) of t k ms a h c l =
      component_number asked env op (type_in k) (span_of t) (front_part ms t c) (second_part ms t c)
      (front_good env (λ d. d) (count_in k) ms t (type_in (vector_among ms)) a.0 h c l)
      (second_good env (count_in k) ms t (type_in (vector_among ms)) a.1 h c l)
  node_good env made.Called of t k ms a h c l =
      let q = name_in (word_of t) in
      let first = type_in (vector_among ms) in
      call_number asked env (word_of t) (span_of t) a.function (all_parts ms c) a.callee
      (ap (nat_eq (arity_of a.function)) (parts_many ms c) ∙ a.arity)
      (every_good (in_arguments env q) (count_in k) ms first a.arguments
      (all_inside env q (all_steps false first ms) h) c l)
  node_good env made.Listed of t k ms a h c l = list_good env (count_in k) ms t (type_in k) a h c l
