-- Each component of a vector expression, as the compiler makes it, is worth what the vector expression is worth there.
use Rattle.std.proofs.Common.{◌≡◌, ℕ, zero, suc, ◌+◌, ◌-◌, ◌<◌, ◌≤◌, ℤ, nat_lt, List, [], ◌++◌, length, map}
use Rattle.std.proofs.Common.{Option, None, Some, Bool, true, false, if◌then◌else◌, refl, sym, ap, ◌∙◌, subst, arith}
use Rattle.std.proofs.lemmas.Bool.Decides.{nat_tests}
use Rattle.wg_num.specs.declared.types.IntType.{IntType}
use Rattle.wg_num.specs.declared.types.Bin.{Bin}
use Rattle.wg_num.specs.Wrap.{IsValue}
use Rattle.cl_model.specs.Lists.{Each}
use Rattle.cl_model.proofs.CallWeights.{each-left, each-right}
use Rattle.cl_tree.specs.declared.tree.Form.{Form}
use Rattle.cl_tree.specs.declared.tree.Form.TheVariants as forms
use Rattle.cl_tree.specs.Syntax.{Syntax}
use Rattle.cl_meaning.specs.OwnWords.{name_in}
use Rattle.cl_meaning.specs.Operators.{binary_in, prefix_in}
use Rattle.cl_meaning.specs.declared.operators.Prefix.{Prefix}
use Rattle.cl_meaning.specs.declared.operators.Prefix.TheVariants as prefixes
use Rattle.cl_meaning.specs.Declarations.{form_of, word_of}
use Rattle.cl_meaning.specs.Environment.{Env}
use Rattle.cl_short_vec.specs.declared.kinds.Kind.{Kind}
use Rattle.cl_short_vec.specs.declared.made.Made.{Made}
use Rattle.cl_short_vec.specs.declared.made.Made.TheVariants as made
use Rattle.cl_short_vec.specs.Types.{numbers, selection_in}
use Rattle.cl_short_vec.specs.Kinds.{is_vector}
use Rattle.cl_short_vec.specs.Marks.{Mark, mark, Marks, unmarked, marking, tree_at, kind_at, vector_among}
use Rattle.cl_short_vec.specs.Roles.{is_paren}
use Rattle.cl_short_vec.specs.Made.{made_of, made_in, made_by_prefix, made_by_selection, made_by_operator}
use Rattle.cl_short_vec.specs.Nodes.{span_of, signed_at, helper, component_name, helping_component}
use Rattle.cl_short_vec.specs.declared.nodes.Span.{Span}
use Rattle.cl_short_vec.specs.Order.{Step, Number, Copy, Load, type_in, count_in, named_by, steps_by, steps_in}
use Rattle.cl_short_vec.specs.Order.{all_steps, list_steps, inside_steps}
use Rattle.cl_short_vec.specs.Parts as parts
use Rattle.cl_short_vec.specs.Parts.{part_by, part_in, item_part, front_part, second_part, all_parts, list_part}
use Rattle.cl_short_vec.specs.Parts.{inside_part, filled_part, width_by, width_of, item_width, filled_at, selected_at}
use Rattle.cl_short_vec_correct.specs.Emits.{Known}
use Rattle.cl_short_vec_correct.specs.Values as values
use Rattle.cl_short_vec_correct.specs.Values.{Leaves, worth_by, worth_in, items_worth, front_worth, second_worth}
use Rattle.cl_short_vec_correct.specs.Values.{all_worth, list_worth, inside_worth, filled_worth, called_value}
use Rattle.cl_short_vec_correct.specs.Doing.{first_at}
use Rattle.cl_short_vec_correct.proofs.Ready.{Ready, Helping}
use Rattle.cl_short_vec.proofs.OwnNames.{helper_name, component_is_name, alone_name}
use Rattle.cl_short_vec_correct.proofs.Trees.{Typed, worth_is, type_is, variable_typed, component_typed, prefixed_typed}
use Rattle.cl_short_vec_correct.proofs.Calls.{AllTyped, call_typed}
use Rattle.cl_short_vec_correct.proofs.Seen.{many_parts, Seen, AllSeen, cast_seen, signed_seen, joined_seen}
use Rattle.cl_short_vec_correct.proofs.Fitting.{IsGiven, type_by, type_at, WithinBy, Within, EitherFits}
use Rattle.cl_short_vec_correct.proofs.Fitting.{CallFits, asked_of, fits_by, Fitting, ItemsFit, FrontFits, SecondFits}
use Rattle.cl_short_vec_correct.proofs.Fitting.{AllFit, ListFits, InsideFits, FilledFits}

-- a step of a leaf is done: its helping variable is visible, and holds a value of its type
abbrev pub Done : Env → List Known → Leaves → Step → Type 0
Done env known leaves step = Ready env known leaves step × IsGiven leaves step

-- ---- lists of steps

-- what holds of a step for each of some numbers holds of that for one of them
counted : (P : Step → Type 0) (step : ℕ → Step) (n first c d : ℕ) → Each P (map step (numbers first 1 n)) → c < n →
    d ≡ first + c → P (step d)
counted P step zero first c d h l e = absurd (omega arith)
counted P step (suc n) first zero d h l e =
    let same : first ≡ d = omega arith in subst (λ z. P (step z)) same h.0
counted P step (suc n) first (suc c) d h l e = counted P step n (first + 1) c d h.1 (omega arith) (omega arith)

one_of : (P : Step → Type 0) (step : ℕ → Step) (n c : ℕ) → Each P (map step (numbers 0 1 n)) → c < n → P (step c)
one_of P step n c h l = counted P step n 0 c c h l (omega arith)

-- ---- components that are there

there : (how : Made) (w c : ℕ) → c < w → WithinBy how w c
there made.Number w c l = tt
there _ w c l = l

-- the first items give as many as they are wide, and another operand as many as its kind has
pub within_items : (m : Mark) (c : ℕ) → c < width_of m → Within true m c
unfolding width_of
within_items (mark t k ms) c l = there (made_of true t k) (width_by (made_of true t k) k (item_width ms)) c l

by_prefix : (o : Option Prefix) (k : Kind) (n : ℕ) → width_by (made_by_prefix o) k n ≡ count_in k
by_prefix (Some (prefixes.Operator op)) k n = refl
by_prefix _ k n = refl

by_selection : (o : Option (List ℕ)) (k : Kind) (n : ℕ) → width_by (made_by_selection o) k n ≡ count_in k
by_selection (Some name) k n = refl
by_selection None k n = refl

by_operator : (o : Option Bin) (k : Kind) (n : ℕ) → width_by (made_by_operator o) k n ≡ count_in k
by_operator (Some op) k n = refl
by_operator None k n = refl

pub width_made : (form : Form) (w : List ℕ) (k : Kind) (n : ℕ) → width_by (made_in form w) k n ≡ count_in k
unfolding made_in
width_made forms.VariableNode w k n = refl
width_made forms.ParenNode w k n = refl
width_made forms.UnaryNode w k n = by_prefix (prefix_in w) k n
width_made forms.PostfixNode w k n = by_selection (selection_in w) k n
width_made forms.CallNode w k n = refl
width_made forms.CastNode w k n = refl
width_made _ w k n = by_operator (binary_in w) k n

pub within_operand : (m : Mark) (c : ℕ) → c < count_in (kind_at m) → Within false m c
within_operand (mark t k ms) c l = by (is_vector k) (made_in (form_of t) (word_of t))
    (width_made (form_of t) (word_of t) k (item_width ms))
  where
    by : (b : Bool) (how : Made) → width_by how k (item_width ms) ≡ count_in k →
        WithinBy (if b then how else made.Number) (width_by (if b then how else made.Number) k (item_width ms)) c
    by true how e = there how (width_by how k (item_width ms)) c (subst (λ z. c < z) (sym e) l)
    by false how e = tt

below : (c w : ℕ) → nat_lt c w ≡ true → c < w
below c w e = grind (arith, nat_tests)

rest : (c w n : ℕ) → nat_lt c w ≡ false → c < w + n → c - w < n
rest c w n e l = let h : w ≤ c = grind (arith, nat_tests) in omega (arith, h, l)

module _ (env : Env) (known : List Known) (leaves : Leaves) (no_flags : env.flags ≡ false) where
  abbrev pub All : List Step → Type 0
  All steps = Each (Done env known leaves) steps

  -- ---- leaves

  number_done : (of : IntType) (m : Mark) → Done env known leaves (Number of m) →
      Typed env known (parts.number_part (tree_at m)) of (leaves.number (first_at m))
  number_done of m h = let s = span_of (tree_at m) in
      variable_typed env known (helper s) s of (leaves.number (first_at m)) h.0.0 no_flags
      (alone_name (helper s) (helper_name s).0) h.0.1 h.0.2 h.1

  pub component_done : (of : IntType) (s : Span) (c : ℕ) (v : ℤ) →
      Helping env known (component_name (helper s) c) of v × IsValue of v →
      Typed env known (helping_component s c) of v
  component_done of s c v h = variable_typed env known (component_name (helper s) c) s of v h.0.0 no_flags
      (alone_name (component_name (helper s) c) (component_is_name (helper s) c (helper_name s).0).0) h.0.1 h.0.2 h.1

  -- what the parts of a node give is worth what they are worth
  record Shown (t : Syntax) (ms : Marks) : Type 0 where
    items : (of : IntType) → ItemsFit of ms → All (all_steps true of ms) → (c : ℕ) → c < item_width ms →
        Seen env (item_part ms t c) → Typed env known (item_part ms t c) of (items_worth leaves ms c)
    front : (of : IntType) (at : ℕ → ℕ) (n : ℕ) → FrontFits of at n ms → All (all_steps false of ms) → (c : ℕ) →
        c < n → Seen env (front_part ms t (at c)) →
        Typed env known (front_part ms t (at c)) of (front_worth leaves ms (at c))
    second : (of : IntType) (n : ℕ) → SecondFits of n ms → All (all_steps false of ms) → (c : ℕ) → c < n →
        Seen env (second_part ms t c) → Typed env known (second_part ms t c) of (second_worth leaves ms c)
    all : (of : IntType) (n : ℕ) → AllFit of n ms → All (all_steps false of ms) → (c : ℕ) → c < n →
        AllSeen env (all_parts ms c) → AllTyped env known of (all_parts ms c) (all_worth leaves ms c)
    list : (of : IntType) (n : ℕ) → ListFits of n ms → All (list_steps of ms) → (c : ℕ) → c < n →
        Seen env (list_part ms t c) → Typed env known (list_part ms t c) of (list_worth leaves ms c)

  abbrev part_given : Syntax → Marks → parts.Given
  part_given t ms = record {
    items = λ d. item_part ms t d;
    front = λ d. front_part ms t d;
    second = λ d. second_part ms t d;
    all = λ d. all_parts ms d;
    list = λ d. list_part ms t d;
  }

  abbrev worth_given : Marks → values.Given
  worth_given ms = record {
    items = λ d. items_worth leaves ms d;
    front = λ d. front_worth leaves ms d;
    second = λ d. second_worth leaves ms d;
    all = λ d. all_worth leaves ms d;
    list = λ d. list_worth leaves ms d;
  }

  parts_length : (ms : Marks) (c : ℕ) → many_parts (all_parts ms c) ≡ length (all_worth leaves ms c)
  unfolding all_parts all_worth
  parts_length unmarked c = refl
  parts_length (marking m ms) c = ap suc (parts_length ms c)

  called_typed : (t : Syntax) (k : Kind) (ms : Marks) (c : ℕ) → Shown t ms →
      CallFits (name_in (word_of t)) (type_in (vector_among ms)) (type_in k) →
      AllFit (type_in (vector_among ms)) (count_in k) ms →
      All (all_steps false (type_in (vector_among ms)) ms) → c < count_in k →
      Seen env (part_by made.Called t k ms (part_given t ms) c) →
      Typed env known (part_by made.Called t k ms (part_given t ms) c) (type_in k)
      (worth_by leaves made.Called t k ms (worth_given ms) c)
  unfolding Seen
  called_typed t k ms c s f a ready l e =
      let of = type_in (vector_among ms) in
      let vs = all_worth leaves ms c in
      let g = e.0 f.function f.named in
      type_is (sym f.gives) (worth_is (sym (ap (λ z. called_value z of vs) f.named))
      (call_typed env known (word_of t) (span_of t) (all_parts ms c) f.function of vs no_flags g.0 f.whole
      (g.1 ∙ parts_length ms c) (s.all of (count_in k) a ready c l e.1)))

  node_typed : (how : Made) (of : IntType) (t : Syntax) (k : Kind) (ms : Marks) (c : ℕ) → Shown t ms →
      fits_by how t k ms (asked_of of k ms) →
      All (steps_by how of (mark t k ms) (all_steps true of ms) (all_steps false (type_in (vector_among ms)) ms)
      (list_steps (type_in k) ms)) → WithinBy how (width_by how k (item_width ms)) c →
      Seen env (part_by how t k ms (part_given t ms) c) →
      Typed env known (part_by how t k ms (part_given t ms) c) (type_by how of k)
      (worth_by leaves how t k ms (worth_given ms) c)
  node_typed made.Number of t k ms c s f ready l e = number_done of (mark t k ms) ready.0
  node_typed made.Items of t k ms c s f ready l e = s.items of f ready c l e
  node_typed made.Variable of t k ms c s f ready l e =
      component_done (type_in k) (span_of t) c (leaves.component (span_of t).first c)
      (one_of (Done env known leaves) (Copy (type_in k) (named_by t)) (count_in k) c ready l)
  node_typed made.Element of t k ms c s f ready l e =
      component_done (type_in k) (span_of t) c (leaves.component (span_of t).first c)
      (one_of (Done env known leaves) (Load (mark t k ms)) (count_in k) c ready.1 l)
  node_typed made.Inside of t k ms c s f ready l e =
      type_is f.0 (s.front (type_in (vector_among ms)) (λ d. d) (count_in k) f.1 ready c l e)
  node_typed (made.Signed op) of t k ms c s f ready l e =
      prefixed_typed env known op (span_of t) (front_part ms t c) (type_in k) (front_worth leaves ms c) f.1
      (type_is f.0 (s.front (type_in (vector_among ms)) (λ d. d) (count_in k) f.2 ready c l
      (signed_seen env op (span_of t) (front_part ms t c)
      (cast_seen env (type_in k) (span_of t) (signed_at op (span_of t) (front_part ms t c)) e))))
  node_typed made.Selected of t k ms c s f ready l e =
      type_is f.0 (s.front (type_in (vector_among ms)) (selected_at t ms) (count_in k) f.1 ready c l e)
  node_typed (made.Joined op) of t k ms c s f ready l e =
      let g = joined_seen env op (type_in k) (span_of t) (front_part ms t c) (second_part ms t c) e in
      component_typed env known op (type_in k) (span_of t) (front_part ms t c) (second_part ms t c)
      (type_in (vector_among ms)) (front_worth leaves ms c) (second_worth leaves ms c) f.0 f.1
      (s.front (type_in (vector_among ms)) (λ d. d) (count_in k) f.2 ready c l g.0)
      (s.second (type_in (vector_among ms)) (count_in k) f.3 ready c l g.1)
  node_typed made.Called of t k ms c s f ready l e = called_typed t k ms c s f.0 f.1 ready l e
  node_typed made.Listed of t k ms c s f ready l e = s.list (type_in k) (count_in k) f ready c l e

  -- ---- by the tree

  -- the one or the other, by a test
  either_typed : (b : Bool) (s t : Syntax) (of : IntType) (v w : ℤ) →
      (b ≡ true → Seen env s → Typed env known s of v) → (b ≡ false → Seen env t → Typed env known t of w) →
      Seen env (if b then s else t) → Typed env known (if b then s else t) of (if b then v else w)
  either_typed true s t of v w h k q = h refl q
  either_typed false s t of v w h k q = k refl q

  in_list : (b : Bool) (f g : Type 0) (s t : Syntax) (of : IntType) (v w : ℤ) → EitherFits b f g →
      (b ≡ true → f → Seen env s → Typed env known s of v) → (b ≡ false → g → Seen env t → Typed env known t of w) →
      Seen env (if b then s else t) → Typed env known (if b then s else t) of (if b then v else w)
  in_list true f g s t of v w e h k q = h refl e q
  in_list false f g s t of v w e h k q = k refl e q

  mutual
    unfolding part_in item_part front_part second_part all_parts list_part inside_part filled_part worth_in items_worth
        front_worth second_worth all_worth list_worth inside_worth filled_worth Fitting ItemsFit FrontFits SecondFits
        AllFit ListFits InsideFits FilledFits steps_in all_steps list_steps inside_steps item_width Seen AllSeen

    pub component_is : (listed : Bool) (of : IntType) (m : Mark) → Fitting listed of m →
        All (steps_in listed of m) → (c : ℕ) → Within listed m c → Seen env (part_in listed m c) →
        Typed env known (part_in listed m c) (type_at listed of m) (worth_in leaves listed m c)
    component_is listed of (mark t k ms) f ready c l q =
        node_typed (made_of listed t k) of t k ms c (record {
          items = λ to. items_typed ms t to;
          front = λ to at n. front_typed ms t to at n;
          second = λ to n. second_typed ms t to n;
          all = λ to n. all_typed ms to n;
          list = λ to n. list_typed ms t to n;
        }) f ready l q

    items_typed : (ms : Marks) (t : Syntax) (of : IntType) → ItemsFit of ms → All (all_steps true of ms) →
        (c : ℕ) → c < item_width ms → Seen env (item_part ms t c) →
        Typed env known (item_part ms t c) of (items_worth leaves ms c)
    items_typed unmarked t of f ready c l q = absurd f
    items_typed (marking m unmarked) t of f ready c l q = absurd f
    items_typed (marking m (marking n ns)) t of f ready c l q =
        let P = Done env known leaves in
        let behind = each-right P (steps_in true of m) (steps_in false of n ++ all_steps false of ns) ready in
        either_typed (nat_lt c (width_of m)) (part_in true m c) (part_in false n (c - width_of m)) of
        (worth_in leaves true m c) (worth_in leaves false n (c - width_of m))
        (λ e i. type_is f.1 (component_is true of m f.0
        (each-left P (steps_in true of m) (steps_in false of n ++ all_steps false of ns) ready) c
        (within_items m c (below c (width_of m) e)) i))
        (λ e i. type_is f.3 (component_is false of n f.2
        (each-left P (steps_in false of n) (all_steps false of ns) behind) (c - width_of m)
        (within_operand n (c - width_of m) (rest c (width_of m) (count_in (kind_at n)) e l)) i)) q

    front_typed : (ms : Marks) (t : Syntax) (of : IntType) (at : ℕ → ℕ) (n : ℕ) → FrontFits of at n ms →
        All (all_steps false of ms) → (c : ℕ) → c < n → Seen env (front_part ms t (at c)) →
        Typed env known (front_part ms t (at c)) of (front_worth leaves ms (at c))
    front_typed unmarked t of at n f ready c l q = absurd f
    front_typed (marking m ms) t of at n f ready c l q =
        type_is f.1 (component_is false of m f.0
        (each-left (Done env known leaves) (steps_in false of m) (all_steps false of ms) ready) (at c) (f.2 c l) q)

    second_typed : (ms : Marks) (t : Syntax) (of : IntType) (n : ℕ) → SecondFits of n ms →
        All (all_steps false of ms) → (c : ℕ) → c < n → Seen env (second_part ms t c) →
        Typed env known (second_part ms t c) of (second_worth leaves ms c)
    second_typed unmarked t of n f ready c l q = absurd f
    second_typed (marking m unmarked) t of n f ready c l q = absurd f
    second_typed (marking m (marking p ps)) t of n f ready c l q =
        let P = Done env known leaves in
        type_is f.1 (component_is false of p f.0 (each-left P (steps_in false of p) (all_steps false of ps)
        (each-right P (steps_in false of m) (steps_in false of p ++ all_steps false of ps) ready)) c (f.2 c l) q)

    all_typed : (ms : Marks) (of : IntType) (n : ℕ) → AllFit of n ms → All (all_steps false of ms) →
        (c : ℕ) → c < n → AllSeen env (all_parts ms c) →
        AllTyped env known of (all_parts ms c) (all_worth leaves ms c)
    all_typed unmarked of n f ready c l q = tt
    all_typed (marking m ms) of n f ready c l q =
        let P = Done env known leaves in (
          type_is f.0.1 (component_is false of m f.0.0
              (each-left P (steps_in false of m) (all_steps false of ms) ready) c (f.0.2 c l) q.0),
          all_typed ms of n f.1 (each-right P (steps_in false of m) (all_steps false of ms) ready) c l q.1,
        )

    list_typed : (ms : Marks) (t : Syntax) (of : IntType) (n : ℕ) → ListFits of n ms →
        All (list_steps of ms) → (c : ℕ) → c < n → Seen env (list_part ms t c) →
        Typed env known (list_part ms t c) of (list_worth leaves ms c)
    list_typed unmarked t of n f ready c l q = absurd f
    list_typed (marking m ms) t of n f ready c l q =
        let P = Done env known leaves in
        in_list (is_paren (form_of (tree_at m))) (InsideFits of n m) (ListFits of n ms) (inside_part m c)
        (list_part ms t c) of (inside_worth leaves m c) (list_worth leaves ms c) f
        (λ e g i. inside_typed m of n e g (each-left P (inside_steps of m) (list_steps of ms) ready) c l i)
        (λ e g i. list_typed ms t of n g (each-right P (inside_steps of m) (list_steps of ms) ready) c l i) q

    inside_typed : (m : Mark) (of : IntType) (n : ℕ) → is_paren (form_of (tree_at m)) ≡ true →
        InsideFits of n m → All (inside_steps of m) → (c : ℕ) → c < n → Seen env (inside_part m c) →
        Typed env known (inside_part m c) of (inside_worth leaves m c)
    inside_typed (mark t k ms) of n e f ready c l q = filled_typed ms t of n f
        (subst (λ b. All (if b then all_steps true of ms else [])) e ready) c l q

    filled_typed : (ms : Marks) (t : Syntax) (of : IntType) (n : ℕ) → FilledFits of n ms →
        All (all_steps true of ms) → (c : ℕ) → c < n → Seen env (filled_part ms t c) →
        Typed env known (filled_part ms t c) of (filled_worth leaves ms c)
    filled_typed unmarked t of n f ready c l q = absurd f
    filled_typed (marking m ms) t of n f ready c l q =
        type_is f.1 (component_is true of m f.0
        (each-left (Done env known leaves) (steps_in true of m) (all_steps false of ms) ready)
        (filled_at (width_of m) c) (f.2 c l) q)
