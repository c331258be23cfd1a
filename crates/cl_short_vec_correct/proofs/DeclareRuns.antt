-- The lines that declare the components of a vector variable with their values stand for their steps.
use Rattle.std.proofs.Common.{◌≡◌, ℕ, suc, ◌+◌, ◌≤◌, ◌<◌, ℤ, List, [], ◌∷◌, length, Option, Some, Bool, true, false}
use Rattle.std.proofs.Common.{if◌then◌else◌, refl, ap, sym, ◌∙◌, subst, inl, inr, ◌⊎◌, arith}
use Rattle.std.proofs.lemmas.Bool.{false≢true}
use Rattle.std.proofs.lemmas.Option.{same_Some}
use Rattle.std.specs.Prelude.{◌||◌}
use Rattle.std.specs.Str.{bytes_eq}
use Rattle.wg_num.specs.declared.types.IntType.{IntType}
use Rattle.wg_num.specs.declared.types.Place.{Place as Position}
use Rattle.wg_num.specs.Wrap.{IsValue}
use Rattle.cl_model.specs.Tree as tree
use Rattle.cl_model.specs.Tree.{Program, Function}
use Rattle.cl_model.specs.Lists.{Each}
use Rattle.cl_tree.specs.declared.tree.Form.TheVariants as forms
use Rattle.cl_tree.specs.Syntax.{Syntax, node, Forest, more}
use Rattle.cl_tree.specs.Nodes.{forest1}
use Rattle.cl_meaning.specs.Spelling.{declared_in}
use Rattle.cl_meaning.specs.declared.types.Declared.{Declared}
use Rattle.cl_meaning.specs.declared.kind.Meaning.{Meaning}
use Rattle.cl_meaning.specs.declared.kind.Meaning.TheVariants as meanings
use Rattle.cl_meaning.specs.declared.kind.Role.{Role}
use Rattle.cl_meaning.specs.declared.kind.Role.TheVariants as roles
use Rattle.cl_meaning.specs.Environment.{Env, Variable, Array, meaning_of, is_declared}
use Rattle.cl_meaning.specs.Expressions.{read}
use Rattle.cl_meaning.specs.Visible.{inside, later, behind, behind_parts}
use Rattle.cl_meaning.specs.Faults.{Asked}
use Rattle.cl_meaning.specs.Statements.{all_lines}
use Rattle.cl_meaning.specs.Meant.{meant, parts_meant}
use Rattle.cl_check_sound.specs.Shape.{IsExpression, IsDeclaration, IsStatement}
use Rattle.cl_check_sound.specs.Sound.{SoundTree}
use Rattle.cl_check_sound.proofs.Facing.{Finals}
use Rattle.cl_check_sound.proofs.Parts.{line_behind}
use Rattle.cl_short_vec.specs.declared.nodes.Span.{Span}
use Rattle.cl_short_vec.specs.Marks.{Mark, kind_at}
use Rattle.cl_short_vec.specs.Nodes.{component_name, declared_at}
use Rattle.cl_short_vec.specs.Order.{Named, Step, Offset, Number, Copy, Load, Set, Store, sets, type_in}
use Rattle.cl_short_vec.specs.Parts.{Assigned, assigned_part}
use Rattle.cl_short_vec.specs.Scalar.{scalar}
use Rattle.cl_short_vec.specs.Unit.{set_line, lines_of}
use Rattle.cl_short_vec_correct.proofs.Worths.{set_worth}
use Rattle.cl_short_vec_correct.specs.Doing.{Got, first_at}
use Rattle.cl_short_vec_correct.specs.Sources.{is_sourced}
use Rattle.cl_short_vec_correct.specs.Emits as emits
use Rattle.cl_short_vec_correct.specs.Emits.{Known, Emits}
use Rattle.cl_short_vec_correct.proofs.Adds.{Adds, IsOwn}
use Rattle.cl_short_vec.proofs.OwnNames.{HasNoBlank}
use Rattle.cl_short_vec_correct.proofs.LineWords.{has_point, component_point}
use Rattle.cl_short_vec_correct.proofs.Declared.{behind_typed, IsTyped}
use Rattle.cl_short_vec_correct.proofs.Initial.{expression_initial}
use Rattle.cl_short_vec_correct.proofs.Lines.{initial_adds, initial_is}
use Rattle.cl_short_vec_correct.proofs.Sound.{initial_fresh}
use Rattle.cl_short_vec_correct.proofs.Slots.{Slot, Whole, Part, Start, slot_name, bytes_are, bytes_same}
use Rattle.cl_short_vec_correct.proofs.Trees.{Typed}
use Rattle.cl_short_vec_correct.proofs.Running.{Held, Done, scalar_meaning, pointer_meaning, any_value}
use Rattle.cl_short_vec_correct.proofs.Running.{fresh_next}
use Rattle.cl_short_vec_correct.proofs.LeafLines.{tree_all}
use Rattle.cl_short_vec_correct.proofs.LeafRuns.{Place, next_place, in_front}
use Rattle.cl_short_vec_correct.proofs.SetRuns.{no_lines}

-- the initialiser of a variable is not at fault
pub number_initial : (asked : Asked) (env : Env) (role : Role) (s : Span) (w : List ℕ) (f l : ℕ) (parts : Forest)
    (d : Declared) (name : List ℕ) (e : Syntax) → IsTyped env w f l parts d →
    SoundTree asked env role (declared_at s (node forms.TypeNode w f l parts) name (forest1 e)) →
    SoundTree asked (behind_typed env d) roles.Other e
unfolding inside later
number_initial asked env role s w f l parts d name e t h =
    let type = node forms.TypeNode w f l parts in
    let b = subst (λ (z : Env). SoundTree asked (record z { declared = declared_in type }) roles.Other e) t.same
    h.0.1.0.0.0 in
    subst (λ z. SoundTree asked (record env { declared = z }) roles.Other e) t.declares b

-- ---- what is declared stays

module _ (env to : Env) (name : List ℕ) (m : Meaning) (adds : Adds env to name m)
    (new : is_declared env name ≡ false) where
  other_name : (q : List ℕ) → is_declared env q ≡ true → bytes_eq name q ≡ false
  other_name q k = by (bytes_eq name q) refl
    where
      by : (b : Bool) → bytes_eq name q ≡ b → b ≡ false
      by true e = absurd (false≢true (sym new ∙ (ap (is_declared env) (bytes_are name q e) ∙ k)))
      by false e = refl

  still_means : (q : List ℕ) → is_declared env q ≡ true → meaning_of to q ≡ meaning_of env q
  still_means q k = adds.meanings q ∙ ap (λ b. if b then Some m else meaning_of env q) (other_name q k)

  still_declared : (q : List ℕ) → is_declared env q ≡ true → is_declared to q ≡ true
  still_declared q k = adds.declared q ∙ (ap (λ b. b || is_declared env q) (other_name q k) ∙ k)

  module _ (start : Env) (known : List Known) (got : Got) where
    held_past : (t : Slot) (n : ℕ → Meaning) (values : ℤ → Type 0) → Held env known got t n values →
        Held to known got t n values
    held_past t n values h = record {
      variable = h.variable;
      visible = still_means (slot_name t) h.declared ∙ h.visible;
      declared = still_declared (slot_name t) h.declared;
      holds = h.holds;
      fits = h.fits;
    }

    done_past : (s : Step) → Done start env known got s → Done start to known got s
    done_past (Offset e) h = record {
      space = h.space;
      constant = h.constant;
      root = h.root;
      place = h.place;
      element = h.element;
      held = held_past (Start (first_at e)) (pointer_meaning h.space (type_in (kind_at e)) h.constant h.root) any_value
          h.held;
    }
    done_past (Number of e) h = held_past (Whole (first_at e)) (scalar_meaning of) (IsValue of) h
    done_past (Copy of x c) h = held_past (Part x.span.first c) (scalar_meaning of) (IsValue of) h
    done_past (Load e c) h =
        held_past (Part (first_at e) c) (scalar_meaning (type_in (kind_at e))) (IsValue (type_in (kind_at e))) h
    done_past (Set x c j) h = tt
    done_past (Store e c j) h = tt

    all_past : (done : List Step) → Each (Done start env known got) done → Each (Done start to known got) done
    all_past [] h = tt
    all_past (s ∷ ss) h = (done_past s h.0, all_past ss h.1)

own_past : (n x y : ℕ) (known : List Known) → x ≤ y →
    Each (λ (k : Known). (n ≤ k.variable) × (k.variable < x)) known →
    Each (λ (k : Known). (n ≤ k.variable) × (k.variable < y)) known
own_past n x y [] l h = tt
own_past n x y (k ∷ ks) l h = let b = h.0.1 in ((h.0.0, omega arith), own_past n x y ks l h.1)

-- what is visible by names without a point, and functions, are as at the statement
pub record Around (start env : Env) : Type 0 where
  pub names : (q : List ℕ) → has_point q ≡ false → meaning_of env q ≡ meaning_of start q
  pub functions : env.functions ≡ start.functions
  pub flags : env.flags ≡ start.flags

unpointed : (p q : List ℕ) → has_point p ≡ true → has_point q ≡ false → bytes_eq p q ≡ false
unpointed p q h k = by (bytes_eq p q) refl
  where
    by : (b : Bool) → bytes_eq p q ≡ b → b ≡ false
    by true e = absurd (false≢true (sym k ∙ (ap has_point (sym (bytes_are p q e)) ∙ h)))
    by false e = refl

around_past : (start env to : Env) (name : List ℕ) (m : Meaning) → Adds env to name m → has_point name ≡ true →
    Around start env → Around start to
around_past start env to name m adds h r = record {
  names = λ q k. adds.meanings q ∙
      (ap (λ b. if b then Some m else meaning_of env q) (unpointed name q h k) ∙ r.names q k);
  functions = adds.functions ∙ r.functions;
  flags = adds.flags ∙ r.flags;
}

-- ---- lines

-- the type in front of the components
pub record TypeFits (env : Env) (type : Mark) (d : Declared) : Type 0 where
  pub words : List ℕ
  pub first : ℕ
  pub last : ℕ
  pub parts : Forest
  pub is : scalar type ≡ node forms.TypeNode words first last parts
  pub typed : IsTyped env words first last parts d

module _ (P : Program) (g : Function) (asked : Asked) (vars : List Variable) (arrs : List Array)
    (fin : Finals g vars arrs) (start : Env) (helps : ℕ → Type 0) (a : Assigned) (type : Mark) (d : Declared)
    (own : IsOwn d.space) (x : Named) (blank : HasNoBlank x.name)
    (types : (env : Env) → TypeFits env type d)
    (shapes : (j : ℕ) → IsExpression (assigned_part a j)) where
  abbrev Here : Env → Forest → Type 0
  Here = Place P g asked vars arrs fin

  declares : (c j : ℕ) → (IsDeclaration (set_line (Some type) x c (assigned_part a j)) ⊎
      IsStatement (set_line (Some type) x c (assigned_part a j))) →
      IsDeclaration (set_line (Some type) x c (assigned_part a j))
  declares c j (inl h) = h
  declares c j (inr h) = absurd h

  -- one line
  module _ (env : Env) (c j : ℕ) (ps : Forest) (inner : 2 ≤ length env.scopes)
      (q : Here env (more (set_line (Some type) x c (assigned_part a j)) ps)) where
    abbrev line : Syntax
    line = set_line (Some type) x c (assigned_part a j)

    line_adds : Adds env (behind env line) (component_name x.name c)
        (meanings.Scalar d.of d.constant (length env.variables))
    line_adds = let t = types env in
        initial_adds env type x c (assigned_part a j) t.words t.first t.last t.parts d inner t.is t.typed own blank
        (expression_initial (behind_typed env d) (assigned_part a j) (shapes j))

    line_new : is_declared env (component_name x.name c) ≡ false
    line_new = let t = types env in
        initial_fresh asked env roles.Other [] type x c (assigned_part a j) t.words t.first t.last t.parts d t.is
        t.typed blank (expression_initial (behind_typed env d) (assigned_part a j) (shapes j)).1
        (tree_all line asked env roles.Other [] q.sound.0 tt)

    value_sound : SoundTree asked (behind_typed env d) roles.Other (assigned_part a j)
    value_sound = let t = types env in
        number_initial asked env roles.Other x.span t.words t.first t.last t.parts d (component_name x.name c)
        (assigned_part a j) t.typed (subst (λ z. SoundTree asked env roles.Other
        (declared_at x.span z (component_name x.name c) (forest1 (assigned_part a j)))) t.is q.sound.0)

  -- what is declared before the lines means the same behind them
  kept_behind : (cs : List ℕ) (j : ℕ) (env : Env) (q : List ℕ) → 2 ≤ length env.scopes →
      Here env (lines_of (Some type) a (sets x cs j)) → is_declared env q ≡ true →
      meaning_of (behind_parts env forms.BlockNode false (lines_of (Some type) a (sets x cs j))) q ≡ meaning_of env q
  unfolding behind_parts
  kept_behind [] j env q inner h k = refl
  kept_behind (c ∷ cs) j env q inner h k =
      let ps = lines_of (Some type) a (sets x cs (suc j)) in
      let p = set_line (Some type) x c (assigned_part a j) in
      let adds = line_adds env c j ps inner h in
      let new = line_new env c j ps inner h in
      let m = meanings.Scalar d.of d.constant (length env.variables) in
      ap (λ z. meaning_of z q) (line_behind env false p ps) ∙
      (kept_behind cs (suc j) (behind env p) q (subst (λ n. 2 ≤ n) (sym adds.scopes) inner)
      (next_place P g asked vars arrs fin env p ps (declares c j h.shaped.0) h)
      (still_declared env (behind env p) (component_name x.name c) m adds new q k) ∙
      still_means env (behind env p) (component_name x.name c) m adds new q k)

  module _ (later' : Env) (known : List Known) (got : Got) (done : List Step) (count : ℕ)
      (values : (env : Env) (j : ℕ) → j < count → Around start env → Each (Done start env known got) done →
      SoundTree asked (behind_typed env d) roles.Other (assigned_part a j) →
      Typed (behind_typed env d) known (assigned_part a j) d.of (set_worth a got.leaves j)) where
    pub declares_run : (cs : List ℕ) (j : ℕ) (env : Env) (sites : List Position) → j + length cs ≤ count →
        2 ≤ length env.scopes → Around start env → Each (Done start env known got) done →
        Each (λ (k : Known). (length start.variables ≤ k.variable) × (k.variable < length env.variables)) known →
        Here env (lines_of (Some type) a (sets x cs j)) →
        later' ≡ behind_parts env forms.BlockNode false (lines_of (Some type) a (sets x cs j)) →
        Emits start later' helps (set_worth a) known got (sets x cs j)
        (all_lines (parts_meant env forms.BlockNode false sites (lines_of (Some type) a (sets x cs j))).pieces)
    declares_run [] j env sites l inner r h o q e =
        subst (λ z. Emits start later' helps (set_worth a) known got [] z) (sym (no_lines env sites))
        (emits.end known got)
    declares_run (c ∷ cs) j env sites l inner r h o q e =
        let ps = lines_of (Some type) a (sets x cs (suc j)) in
        let p = set_line (Some type) x c (assigned_part a j) in
        let adds = line_adds env c j ps inner q in
        let new = line_new env c j ps inner q in
        let m = meanings.Scalar d.of d.constant (length env.variables) in
        let t = types env in
        let v = values env j (omega arith) r h (value_sound env c j ps inner q) in
        let i = expression_initial (behind_typed env d) (assigned_part a j) (shapes j) in
        let value = read (meant (behind_typed env d) sites (assigned_part a j)).piece.what in
        let inner' = subst (λ n. 2 ≤ n) (sym adds.scopes) inner in
        let q' = next_place P g asked vars arrs fin env p ps (declares c j q.shaped.0) q in
        let name = component_name x.name c in
        let mine = adds.meanings name ∙ ap (λ b. if b then Some m else meaning_of env name) (bytes_same name) in
        let there = adds.declared name ∙ ap (λ b. b || is_declared env name) (bytes_same name) in
        let e' = e ∙ line_behind env false p ps in
        let more_by = adds.variables in
        subst (λ z. Emits start later' helps (set_worth a) known got (sets x (c ∷ cs) j) z)
        (sym (in_front env sites p ps
        (tree.Declare (length env.variables) (Some value))
        (initial_is env type x c (assigned_part a j) t.words t.first t.last t.parts d inner t.is t.typed own blank
        sites i (v.leaves, (v.reached, v.kind)))))
        (emits.declare_line known got (sets x cs (suc j))
        (all_lines (parts_meant (behind env p) forms.BlockNode false (meant env sites p).sites ps).pieces) x c j
        (length env.variables) d.of value (
          d.constant,
          ap (λ z. meaning_of z name) e' ∙ (kept_behind cs (suc j) (behind env p) name inner' q' there ∙
              mine),
        ) (v.worth sites) (fresh_next (length start.variables) (length env.variables) known o)
        (declares_run cs (suc j) (behind env p) (meant env sites p).sites (omega arith) inner'
        (around_past start env (behind env p) name m adds (component_point x.name c) r)
        (all_past env (behind env p) name m adds new start known got done h)
        (own_past (length start.variables) (length env.variables) (length (behind env p).variables) known
        (omega arith) o) q' e'))

  -- a scalar that a name of the source stands for is one that was there at the statement, or is new behind so many
  abbrev pub IsAside : ℕ → Env → Type 0
  IsAside limit env = (q : List ℕ) (of : IntType) (constant : Bool) (y : ℕ) → is_sourced q ≡ true →
      meaning_of env q ≡ Some (meanings.Scalar of constant y) → (y < length start.variables) ⊎ (limit ≤ y)

  pub declares_aside : (limit : ℕ) (cs : List ℕ) (j : ℕ) (env : Env) → 2 ≤ length env.scopes →
      limit ≤ length env.variables → IsAside limit env → Here env (lines_of (Some type) a (sets x cs j)) →
      IsAside limit (behind_parts env forms.BlockNode false (lines_of (Some type) a (sets x cs j)))
  unfolding behind_parts
  declares_aside limit [] j env inner l h q = h
  declares_aside limit (c ∷ cs) j env inner l h q =
      let ps = lines_of (Some type) a (sets x cs (suc j)) in
      let p = set_line (Some type) x c (assigned_part a j) in
      let adds = line_adds env c j ps inner q in
      let more_by = adds.variables in
      subst (IsAside limit) (sym (line_behind env false p ps))
      (declares_aside limit cs (suc j) (behind env p) (subst (λ n. 2 ≤ n) (sym adds.scopes) inner) (omega arith)
      (λ q' of constant y k m. new (bytes_eq (component_name x.name c) q') y
      (meanings.Scalar d.of d.constant (length env.variables)) of constant (meaning_of env q') (h q' of constant y k)
      refl l (sym (adds.meanings q') ∙ m))
      (next_place P g asked vars arrs fin env p ps (declares c j q.shaped.0) q))
    where
      new : (b : Bool) (y : ℕ) (m : Meaning) (of : IntType) (constant : Bool) (o : Option Meaning) →
          (o ≡ Some (meanings.Scalar of constant y) → (y < length start.variables) ⊎ (limit ≤ y)) →
          m ≡ meanings.Scalar d.of d.constant (length env.variables) → limit ≤ length env.variables →
          (if b then Some m else o) ≡ Some (meanings.Scalar of constant y) →
          (y < length start.variables) ⊎ (limit ≤ y)
      new true y m of constant o g e k z =
          let same : length env.variables ≡ y = ap number_of (sym e ∙ same_Some _ _ z) in
          inr (subst (λ n. limit ≤ n) same k)
        where
          number_of : Meaning → ℕ
          number_of (meanings.Scalar t c n) = n
          number_of n = 0
      new false y m of constant o g e k z = g z
