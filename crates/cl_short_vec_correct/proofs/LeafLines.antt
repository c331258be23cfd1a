-- The line of a leaf declares its helping variable, and stands for the leaf's step.
use Rattle.std.proofs.Common.{◌≡◌, ℕ, ◌≤◌, ◌<◌, ℤ, pos, nat_eq, List, [], ◌∷◌, length, Option, Some, None, Bool}
use Rattle.std.proofs.Common.{true, false, map, slice_get, refl, ap, sym, ◌∙◌, subst, inl, inr, arith}
use Rattle.std.proofs.lemmas.Bool.Decides.{nat_tests}
use Rattle.std.specs.Prelude.{codes, ◌-◌}
use Rattle.wg_num.specs.declared.types.IntType.{IntType}
use Rattle.wg_num.specs.declared.types.IntType.TheVariants as types
use Rattle.wg_num.specs.declared.types.Bin.TheVariants as bins
use Rattle.wg_num.specs.declared.types.Place.{Place}
use Rattle.wg_num.specs.Wrap.{IsValue, wrap_of, modulus, half}
use Rattle.wg_num.proofs.WrapLaws.{IsValue-wrap}
use Rattle.cl_model.specs.declared.program.Root.{Root}
use Rattle.cl_model.specs.declared.program.Space.{Space}
use Rattle.cl_model.specs.declared.program.VarKind.TheVariants as var_kinds
use Rattle.cl_model.specs.Tree as tree
use Rattle.cl_model.specs.Tree.{Action, Expression, Expressions, Apply, Update, Choose, Call, Program, Function}
use Rattle.cl_model.specs.Tree.{Statements, also}
use Rattle.cl_model.specs.Lists.{Each}
use Rattle.cl_model.specs.Valid.{Scope, Has, ActionNames, NamesIn, NamesAmong}
use Rattle.cl_tree.specs.declared.tree.Form.{Form}
use Rattle.cl_tree.specs.declared.tree.Form.TheVariants as forms
use Rattle.cl_tree.specs.Nodes.{forest1, forest2}
use Rattle.cl_tree.specs.Syntax.{Syntax, node, Forest, none, more, last_of}
use Rattle.cl_meaning.specs.declared.types.Declared.{Declared}
use Rattle.cl_meaning.specs.declared.kind.Reach.{Reach}
use Rattle.cl_meaning.specs.declared.kind.Kind.{Kind}
use Rattle.cl_meaning.specs.declared.kind.Kind.TheVariants as kinds
use Rattle.cl_meaning.specs.declared.kind.Each.TheVariants as each
use Rattle.cl_meaning.specs.declared.kind.Meaning.{Meaning}
use Rattle.cl_meaning.specs.declared.kind.Meaning.TheVariants as meanings
use Rattle.cl_meaning.specs.declared.kind.Role.{Role}
use Rattle.cl_meaning.specs.declared.kind.Role.TheVariants as roles
use Rattle.cl_meaning.specs.Spelling.{declared_in}
use Rattle.cl_meaning.specs.Environment.{Env, Variable, is_declared}
use Rattle.cl_meaning.specs.Declarations.{root_of, with_variable}
use Rattle.cl_meaning.specs.Visible.{Node, Before, inside, later, behind, kind_of, is_front, role_of, in_order}
use Rattle.cl_meaning.specs.Visible.{parts_in_order}
use Rattle.cl_meaning.specs.Faults.{Asked, AllSound}
use Rattle.cl_meaning.specs.Expressions.{read, operand}
use Rattle.cl_meaning.specs.Typed.{lines}
use Rattle.cl_meaning.specs.Statements.{alone}
use Rattle.cl_meaning.specs.Meant.{meant}
use Rattle.cl_check_sound.specs.Shape.{IsExpression}
use Rattle.cl_check_sound.specs.Sound.{SoundTree, SoundParts}
use Rattle.cl_check_sound.specs.Fits.{Fits}
use Rattle.cl_check_sound.proofs.Grown.{Extends}
use Rattle.cl_check_sound.proofs.Facing.{element_behind}
use Rattle.cl_check_sound.proofs.Shapes.{of_expressions}
use Rattle.cl_check_sound.proofs.Expressions.{fits_expression}
use Rattle.cl_check_sound.proofs.Naming.{Scoped, expression_scoped, operand_scoped}
use Rattle.cl_short_vec.specs.declared.nodes.Span.{Span}
use Rattle.cl_short_vec.specs.Marks.{Mark, tree_at, kind_at}
use Rattle.cl_short_vec.specs.Nodes.{span_of, helper, component_name, declared_at, star_at, type_word, constant_word}
use Rattle.cl_short_vec.specs.Nodes.{space_word}
use Rattle.cl_short_vec.specs.Order.{Named, Step, Offset, Number, Copy, Load, type_in}
use Rattle.cl_short_vec.specs.Scalar.{scalar}
use Rattle.cl_short_vec.specs.Unit.{pointed_at, address_at, number_line, offset_line, copy_line, load_line}
use Rattle.cl_short_vec_correct.specs.Values.{Leaves, Worth}
use Rattle.cl_short_vec_correct.specs.Doing.{Got, first_at, IsElement, IsPointing, IsDeclaredAs}
use Rattle.cl_short_vec_correct.specs.Emits as emits
use Rattle.cl_short_vec_correct.specs.Emits.{Known, knows, IsIn, Fresh, Spares, SparesAction, SparesAll, Emits}
use Rattle.cl_short_vec_correct.proofs.Adds.{Adds}
use Rattle.cl_short_vec_correct.proofs.Alike.{alike}
use Rattle.cl_short_vec_correct.proofs.Sourced.{Unpointed, SourcedMark, names_same, scalar_unpointed, address_unpointed}
use Rattle.cl_short_vec.proofs.OwnNames.{IsName, helper_name, component_is_name}
use Rattle.cl_short_vec_correct.proofs.LineWords.{declared_with}
use Rattle.cl_short_vec_correct.proofs.Declared.{behind_typed, IsTyped}
use Rattle.cl_short_vec_correct.proofs.Initial.{expression_initial, address_expression}
use Rattle.cl_short_vec_correct.proofs.Pieces.{meant_kind, index_of, star_behind, variable_behind}
use Rattle.cl_short_vec_correct.proofs.Lines.{IsInitialAt, declared_behind, type_of, numbered, pointing, component_at}
use Rattle.cl_short_vec_correct.proofs.Lines.{number_adds, number_is, offset_adds, offset_is, space_of}
use Rattle.cl_short_vec_correct.proofs.Lines.{copy_adds, copy_is, load_adds, load_is}
use Rattle.cl_short_vec_correct.proofs.Sound.{number_fresh, offset_fresh, offset_pointer, copy_fresh, load_fresh}
use Rattle.cl_short_vec_correct.proofs.Slots.{Slot, Whole, Part, Start, slot_name, with_slot}
use Rattle.cl_short_vec_correct.proofs.StepFits.{IsElementMark, ComponentFits}
use Rattle.cl_short_vec_correct.proofs.Running.{Pointed, Done, Running, scalar_meaning, pointer_meaning, any_value}
use Rattle.cl_short_vec_correct.proofs.Running.{held_new, fresh_next, same_name}

-- ---- nodes of a tree that is not at fault

mutual
  unfolding in_order parts_in_order

  pub tree_all : (t : Syntax) (asked : Asked) (env : Env) (role : Role) (others : List Node) →
      SoundTree asked env role t → AllSound asked others → AllSound asked (in_order env role t others)
  tree_all (node form w f l parts) asked env role others s h =
      parts_all parts asked (inside env form w) form None (record {
        visible = env;
        role = role;
        tree = node form w f l parts;
      } ∷ others) s.0 (s.1.0, h)

  parts_all : (parts : Forest) (asked : Asked) (env : Env) (form : Form) (b : Before) (others : List Node) →
      SoundParts asked env form b parts → AllSound asked others →
      AllSound asked (parts_in_order env form b parts others)
  parts_all none asked env form b others s h = h
  parts_all (more p ps) asked env form b others s h =
      let next = later (behind env p) form (is_front b) p (kind_of env p) in
      tree_all p asked env (role_of form b p) (parts_in_order next form (Some (last_of p)) ps others) s.0
      (parts_all ps asked next form (Some (last_of p)) others s.1 h)

-- the initialiser of a pointer variable is not at fault
pub pointer_initial : (asked : Asked) (env : Env) (role : Role) (s : Span) (w : List ℕ) (f l : ℕ) (parts : Forest)
    (d : Declared) (name : List ℕ) (e : Syntax) → IsTyped env w f l parts d →
    SoundTree asked env role (declared_at s (node forms.TypeNode w f l parts) name (forest2 (star_at s) e)) →
    SoundTree asked (behind_typed env d) roles.Other e
unfolding inside later
pointer_initial asked env role s w f l parts d name e t h =
    let type = node forms.TypeNode w f l parts in
    let a = subst (λ z. SoundTree asked z roles.Other e)
    (star_behind (record (behind env type) { declared = declared_in type }) (codes "*") s.first (s.first - 1))
    h.0.1.0.0.1.0 in
    let b = subst (λ (z : Env). SoundTree asked (record z { declared = declared_in type }) roles.Other e) t.same a in
    subst (λ z. SoundTree asked (record env { declared = z }) roles.Other e) t.declares b

-- ---- what an expression leaves alone

pub has_below : (scope : Scope) (n x : ℕ) → Each (λ y. y < n) scope → Has scope x → x < n
has_below [] n x h k = absurd k
has_below (y ∷ ys) n x h (inl e) = subst (λ z. z < n) e h.0
has_below (y ∷ ys) n x h (inr k) = has_below ys n x h.1 k

-- a pointer of the same type to the same root
pointer_adds : (env later : Env) (name : List ℕ) (s : Space) (of to : IntType) (c : Bool) (r q : Root) (x : ℕ) → r ≡ q →
    to ≡ of → Adds env later name (meanings.Pointer s of c r false x) →
    Adds env later name (meanings.Pointer s to c q false x)
pointer_adds env later name s of to c r q x h k a =
    subst (λ z. Adds env later name (meanings.Pointer s z c q false x)) (sym k)
    (subst (λ z. Adds env later name (meanings.Pointer s of c z false x)) h a)

pub fresh_below : (n x : ℕ) (known : List Known) → x < n → Each (λ (k : Known). n ≤ k.variable) known → Fresh x known
fresh_below n x [] l h = tt
fresh_below n x (k ∷ ks) l h = (by (nat_eq x k.variable) refl, fresh_below n x ks l h.1)
  where
    by : (b : Bool) → nat_eq x k.variable ≡ b → b ≡ false
    by true e = let m = h.0 in absurd (grind (arith, nat_tests))
    by false e = refl

module _ (scope : Scope) (n : ℕ) (known : List Known) (below : Each (λ x. x < n) scope)
    (above : Each (λ (k : Known). n ≤ k.variable) known) where
  action_spares : (a : Action) → ActionNames scope a → SparesAction known a
  action_spares (tree.Set x) h = fresh_below n x known (has_below scope n x below h) above
  action_spares (tree.Change x op of back old) h = fresh_below n x known (has_below scope n x below h) above
  action_spares _ h = tt

  mutual
    pub spares : (e : Expression) → NamesIn scope e → Spares known e
    spares (Apply a es) h = (action_spares a h.0, all_spare es h.1)
    spares (Update site element root op of back old index value) h = (spares index h.0, spares value h.1)
    spares (Choose site test chosen other) h = (spares test h.0, spares chosen h.1, spares other h.2)
    spares (Call site function roots arguments) h = all_spare arguments h

    all_spare : (es : Expressions) → NamesAmong scope es → SparesAll known es
    all_spare tree.none h = tt
    all_spare (tree.more e es) h = (spares e h.0, all_spare es h.1)

pub above_all : (n m : ℕ) (known : List Known) →
    Each (λ (k : Known). (n ≤ k.variable) × (k.variable < m)) known → Each (λ (k : Known). n ≤ k.variable) known
above_all n m [] h = tt
above_all n m (k ∷ ks) h = (h.0.0, above_all n m ks h.1)

-- the root of a pointer
root_of_kind : {space : Space} {of : IntType} {c : Bool} {r : Root} {p : Reach} (o : Option Kind) →
    o ≡ Some (kinds.Pointer space of c r each.Element p) → root_of o ≡ r
root_of_kind o h = ap root_of h

-- nothing is a value of each type
zero_wraps : (t : IntType) → wrap_of t (pos 0) ≡ pos 0
unfolding wrap_of modulus half
zero_wraps types.Bool = refl
zero_wraps types.Char = refl
zero_wraps types.Uchar = refl
zero_wraps types.Short = refl
zero_wraps types.Ushort = refl
zero_wraps types.Int = refl
zero_wraps types.Uint = refl
zero_wraps types.Long = refl
zero_wraps types.Ulong = refl

zero_value : (t : IntType) → IsValue t (pos 0)
zero_value t = subst (IsValue t) (zero_wraps t) (IsValue-wrap t (pos 0))

-- ---- the type with which a line declares its helping variable

-- where the declarations of a function go on behind a scalar, it is declared with its type
scalar_declared : (env later : Env) (name : List ℕ) (token : ℕ) (of : IntType) (m : Meaning) →
    Extends (with_variable env name token (var_kinds.Scalar of) m).variables later.variables →
    IsDeclaredAs later (length env.variables) of
scalar_declared env later name token of m (others, e) = (
  var_kinds.Scalar of,
  ap (λ z. slice_get (map (λ (v : Variable). v.kind) z) (length env.variables)) e ∙
      element_behind (λ (v : Variable). v.kind) env.variables _ others,
  refl,
)

-- a line that declares a scalar of that type with an initialiser
abbrev scalar_line : Span → IntType → List ℕ → Syntax → Syntax
scalar_line s of name e =
    declared_at s (node forms.TypeNode (type_word of) s.first s.last none) name (forest1 e)

-- the same behind such a line
line_declared : (env later : Env) (s : Span) (of : IntType) (name : List ℕ) (e : Syntax) → 2 ≤ length env.scopes →
    IsName name → IsInitialAt (numbered env of) e →
    Extends (behind env (scalar_line s of name e)).variables later.variables →
    IsDeclaredAs later (length env.variables) of
line_declared env later s of name e inner named i x =
    scalar_declared env later name s.first of (meanings.Scalar of false (length env.variables))
    (subst (λ (z : Env). Extends z.variables later.variables) (declared_behind env s (type_word of) s.first s.last none
    (declared_with None false of) name e inner (type_of env of s) named tt i) x)

-- ---- leaves

module _ (asked : Asked) (start later' : Env) (scope : Scope) (helps : ℕ → Type 0) (result : Leaves → Worth)
    (plain : start.flags ≡ false) (seen : Scoped scope start)
    (below : Each (λ x. x < length start.variables) scope) where
  -- what the line of a leaf is
  pub record LeafLine (env : Env) (sites : List Place) (known : List Known) (got : Got) (step : Step) (line : Syntax) :
      Type 1 where
    pub slot : Slot
    pub meaning : ℕ → Meaning
    pub values : ℤ → Type 0
    pub zero : values (pos 0)
    pub place : Expression
    pub what : (meant env sites line).piece.what ≡ lines (alone (tree.Declare (length env.variables) (Some place)))
    pub adds : Adds env (behind env line) (slot_name slot) (meaning (length env.variables))
    pub new : is_declared env (slot_name slot) ≡ false
    pub emit : (steps : List Step) (ss : Statements) → ((v : ℤ) → values v →
        Emits start later' helps result (knows (length env.variables) v known) (with_slot got slot v) steps ss) →
        Emits start later' helps result known got (step ∷ steps)
        (also (tree.Declare (length env.variables) (Some place)) ss)
    pub after : (v : ℤ) → values v →
        Done start (behind env line) (knows (length env.variables) v known) (with_slot got slot v) step

  -- an expression stands for the same at the statement and at the line
  same_meant : (env : Env) (known : List Known) (got : Got) (done : List Step) (d : Declared) (sites : List Place)
      (e : Syntax) → Running start env known got done → IsExpression e → Unpointed e →
      meant (behind_typed env d) sites e ≡ meant start sites e
  same_meant env known got done d sites e r h u = alike e (behind_typed env d) start sites (of_expressions e h)
      (record { places = r.like.places; functions = r.like.functions; flags = r.like.flags })
      (names_same e (behind_typed env d) start (λ q k. same_name r q k) u)

  module _ (env : Env) (sites : List Place) (known : List Known) (got : Got) (done : List Step) (role : Role)
      (r : Running start env known got done) (help : helps (length env.variables)) where
    next : Fresh (length env.variables) known
    next = fresh_next (length start.variables) (length env.variables) known r.own

    above : Each (λ (k : Known). length start.variables ≤ k.variable) known
    above = above_all (length start.variables) (length env.variables) known r.own

    pub number_leaf : (of : IntType) (m : Mark) → IsExpression (scalar m) → SourcedMark m →
        SoundTree asked env role (number_line of m) →
        Extends (behind env (number_line of m)).variables later'.variables →
        LeafLine env sites known got (Number of m) (number_line of m)
    number_leaf of m h u s x =
        let d = numbered env of in
        let i = expression_initial d (scalar m) h in
        let e = operand of (meant d sites (scalar m)).piece in
        let q = ap (λ z. operand of z.piece) (same_meant env known got done _ sites (scalar m) r h
        (scalar_unpointed m u)) in
        let a = number_adds env r.inner of m i in
        let f = number_fresh asked env role [] of m i.1 (tree_all (number_line of m) asked env role [] s tt) in
        let sp = spares scope (length start.variables) known below above e (subst (NamesIn scope) (sym q)
        (operand_scoped scope of (meant start sites (scalar m)).piece
        (expression_scoped scope start sites (scalar m) h seen))) in
        record {
          slot = Whole (first_at m);
          meaning = scalar_meaning of;
          values = IsValue of;
          zero = zero_value of;
          place = e;
          what = number_is env r.inner of m sites i;
          adds = a;
          new = f;
          emit = λ steps ss g. emits.number_line known got steps ss of m e (length env.variables) (sites, q) sp help
              next (line_declared env later' (span_of (tree_at m)) of (helper (span_of (tree_at m))) (scalar m) r.inner
              (helper_name (span_of (tree_at m))) i x) g;
          after = λ v k. held_new start env (behind env (number_line of m)) known got (Whole (first_at m))
              (scalar_meaning of) v a f (IsValue of) k;
        }

    pub copy_leaf : (of : IntType) (x : Named) (c : ℕ) → ComponentFits start x c of →
        SoundTree asked env role (copy_line of x c) →
        Extends (behind env (copy_line of x c)).variables later'.variables →
        LeafLine env sites known got (Copy of x c) (copy_line of x c)
    copy_leaf of x c h s b =
        let flags : env.flags ≡ false = r.like.flags ∙ plain in
        let visible = same_name r (component_name x.name c) h.sourced ∙ h.visible in
        let a = copy_adds env of x c r.inner in
        let f = copy_fresh asked env role [] of x c (tree_all (copy_line of x c) asked env role [] s tt) in
        record {
          slot = Part x.span.first c;
          meaning = scalar_meaning of;
          values = IsValue of;
          zero = zero_value of;
          place = Apply (tree.Variable h.variable) tree.none;
          what = copy_is env of x c h.constant h.variable sites r.inner flags h.blank visible;
          adds = a;
          new = f;
          emit = λ steps ss g. emits.copy_line known got steps ss of x c (length env.variables) h.variable
              (h.constant, h.visible) help next (line_declared env later' x.span of (component_name (helper x.span) c)
              (component_at x c) r.inner (component_is_name (helper x.span) c (helper_name x.span).0)
              (refl, variable_behind (numbered env of) (component_name x.name c) x.span.first x.span.last) b) g;
          after = λ v k. held_new start env (behind env (copy_line of x c)) known got (Part x.span.first c)
              (scalar_meaning of) v a f (IsValue of) k;
        }

    pub load_leaf : (m : Mark) (c : ℕ) → Pointed start env known got m → c ≤ 16 →
        SoundTree asked env role (load_line m c) → LeafLine env sites known got (Load m c) (load_line m c)
    load_leaf m c h small s =
        let flags : env.flags ≡ false = r.like.flags ∙ plain in
        let of = type_in (kind_at m) in
        let y = h.held.variable in
        let a = load_adds env m c r.inner in
        let f = load_fresh asked env role [] m c (tree_all (load_line m c) asked env role [] s tt) in
        record {
          slot = Part (first_at m) c;
          meaning = scalar_meaning of;
          values = IsValue of;
          zero = zero_value of;
          place = Apply (tree.Load (length sites) of h.root) (tree.single (index_of y c));
          what = load_is env m c h.space h.constant false h.root y sites r.inner flags small h.held.visible;
          adds = a;
          new = f;
          emit = λ steps ss g. emits.load_line known got steps ss m c (length env.variables) (length sites) h.root
              h.place (index_of y c) h.element
              (emits.binary bins.Add types.Long (Apply (tree.Variable y) tree.none)
              (Apply (tree.Literal (pos c) types.Long) tree.none) (got.offsets (first_at m)) (pos c)
              (emits.variable y (got.offsets (first_at m)) h.held.holds) (emits.literal (pos c) types.Long)) help next
              g;
          after = λ v k. held_new start env (behind env (load_line m c)) known got (Part (first_at m) c)
              (scalar_meaning of) v a f (IsValue of) k;
        }

    -- the address of an element is a pointer, where all that is visible fits a program
    module _ (P : Program) (g : Function) (fits : Fits P g asked.missing env) where
      pub offset_leaf : (m : Mark) → IsElementMark m → IsExpression (scalar m) → SourcedMark m →
          SoundTree asked env role (offset_line m) → LeafLine env sites known got (Offset m) (offset_line m)
      offset_leaf m k h u s =
          let v = k.vector in
          let d = pointing env k.space k.constant v.of in
          let line = offset_line m in
          let e = address_at m in
          let he = address_expression m h in
          let i = expression_initial d e he in
          let all = tree_all line asked env role [] s tt in
          let sp = span_of (tree_at m) in
          let fit = fits_expression P g asked d roles.Other sites e he (pointer_initial asked env role sp
          (constant_word k.constant v.of) sp.first sp.last
          (forest1 (node forms.SpaceNode (space_word k.space) sp.first sp.last none))
          (declared_with (Some k.space) k.constant v.of) (helper sp) e
          (space_of env k.space k.constant v.of sp)
          (subst (λ z. SoundTree asked env role (declared_at sp (pointed_at z sp) (helper sp) (forest2 (star_at sp) e)))
          k.is s)) fits in
          let same = same_meant env known got done _ sites e r he (address_unpointed m u) in
          let points = offset_pointer asked env role [] m v k.space k.constant k.is i.1 all fit.kind
          (meant_kind d sites e ∙ fit.known) in
          let root = points.1 in
          let kind = fit.known ∙ ap Some points.3 in
          let name = root_of_kind (kind_of d e) (meant_kind d sites e ∙ kind) in
          let meaning = pointer_meaning k.space (type_in (kind_at m)) k.constant root in
          let adds = pointer_adds env (behind env line) (helper sp) k.space v.of (type_in (kind_at m)) k.constant
          (root_of (kind_of d e)) root (length env.variables) name (ap type_in k.is)
          (offset_adds env r.inner m v k.space k.constant k.is i.1) in
          let f = offset_fresh asked env role [] m v k.space k.constant k.is i.1 all in
          let q = ap (λ z. read z.piece.what) same in
          let element : IsElement start m root (read (meant d sites e).piece.what) =
          (sites, subst (IsPointing root) (sym kind ∙ ap (λ z. z.piece.kind) same) refl, q) in
          let spared = spares scope (length start.variables) known below above (read (meant d sites e).piece.what)
          (subst (NamesIn scope) (sym q) (expression_scoped scope start sites e he seen)) in
          record {
            slot = Start (first_at m);
            meaning = meaning;
            values = any_value;
            zero = tt;
            place = read (meant d sites e).piece.what;
            what = offset_is env r.inner m v k.space k.constant sites k.is i.1;
            adds = adds;
            new = f;
            emit = λ steps ss g. emits.offset_line known got steps ss m root (read (meant d sites e).piece.what)
                (length env.variables) element spared help next (λ v. g v tt);
            after = λ v k'. record {
              space = k.space;
              constant = k.constant;
              root = root;
              place = read (meant d sites e).piece.what;
              element = element;
              held = held_new start env (behind env line) known got (Start (first_at m)) meaning v adds f any_value tt;
            };
          }
