-- A declaration in a block: its declarators do their steps, and what is in hand behind it.
use Rattle.std.proofs.Common.{◌≡◌, ℕ, ◌≤◌, List, [], Option, None, Some, Bool, true, false, refl, ap, sym, ◌∙◌}
use Rattle.std.proofs.Common.{subst, inl, inr, ◌⊎◌}
use Rattle.std.specs.Prelude.{codes, ◌++◌}
use Rattle.wg_num.specs.declared.types.Place.{Place}
use Rattle.cl_model.specs.Tree.{Function, Program}
use Rattle.cl_tree.specs.declared.tree.Form.{Form}
use Rattle.cl_tree.specs.declared.tree.Form.TheVariants as forms
use Rattle.cl_tree.specs.Syntax.{Syntax, node, Forest, none, more, joined}
use Rattle.cl_meaning.specs.Spelling.{name_in}
use Rattle.cl_meaning.specs.Types.{space_among}
use Rattle.cl_meaning.specs.Declarations.{parts_of}
use Rattle.cl_meaning.specs.Environment.{Env, Variable, Array}
use Rattle.cl_meaning.specs.Visible.{Before, behind, behind_parts}
use Rattle.cl_meaning.specs.Faults.{Asked}
use Rattle.cl_check_sound.specs.Shape.{IsType, IsExpressionOf, IsDeclarationOf, IsDeclaratorOf, AreDeclaratorsOf}
use Rattle.cl_check_sound.specs.Sound.{SoundParts}
use Rattle.cl_check_sound.proofs.Grown.{within_later}
use Rattle.cl_check_sound.proofs.Facing.{Finals}
use Rattle.cl_check_sound.proofs.Parts.{line_behind}
use Rattle.cl_short_vec.specs.declared.types.Vector.{Vector}
use Rattle.cl_short_vec.specs.declared.roles.Around.TheVariants as around
use Rattle.cl_short_vec.specs.declared.roles.Role.{Role}
use Rattle.cl_short_vec.specs.declared.roles.Role.TheVariants.{Free, Declared}
use Rattle.cl_short_vec.specs.Types.{vector_type}
use Rattle.cl_short_vec.specs.Kinds.{Names, behind_declared, behind_declarator, behind_declarators}
use Rattle.cl_short_vec.specs.Kinds as kinds
use Rattle.cl_short_vec.specs.Marks.{Mark, Marks, unmarked, marking, tree_at, marked, marked_parts}
use Rattle.cl_short_vec.specs.Roles.{role_of, around_of}
use Rattle.cl_short_vec.specs.Faults.{is_end, refusals, refusals_in, refusal_at}
use Rattle.cl_short_vec.specs.Parts.{Assigned}
use Rattle.cl_short_vec.specs.Scalar.{scalar, scalars}
use Rattle.cl_short_vec.specs.Unit.{declared_name, name_span, declarators_by, initialiser, declarator_lines}
use Rattle.cl_short_vec.specs.Unit.{vector_lines, lines_by}
use Rattle.cl_short_vec.specs.Unit.{declaration_lines}
use Rattle.cl_short_vec.proofs.Small.{SmallMarks, SmallNames, marked_small, later_small, behind_small, type_small}
use Rattle.cl_short_vec.proofs.Small.{behind_declarator_small, SmallVector}
use Rattle.cl_short_vec_correct.proofs.Scalars.{type_is}
use Rattle.cl_short_vec_correct.proofs.Steps.{IsValue, initial_are}
use Rattle.cl_short_vec_correct.proofs.FormDeclarations.{vector_declarator, declarator_lines_are, vector_lines_are}
use Rattle.cl_short_vec_correct.proofs.FormDeclarations.{declaration_lines_are}
use Rattle.cl_short_vec_correct.specs.Each.{DeclaratorDoes, DeclaratorsDo, TypedDo, DeclarationDoes}
use Rattle.cl_short_vec_correct.proofs.Says.{IsOwn, Own, AllOwn, Says}
use Rattle.cl_short_vec_correct.proofs.Whole.{behind_whole, behind_declarator_whole}
use Rattle.cl_short_vec_correct.proofs.Reaches.{behind_named, behind_declarator_named}
use Rattle.cl_short_vec_correct.proofs.Stands.{Stands, Ends, Locals}
use Rattle.cl_short_vec_correct.proofs.Moves.{ends_before}
use Rattle.cl_short_vec_correct.proofs.Forms.{nothing_front, nothing_behind}
use Rattle.cl_short_vec_correct.proofs.Declares.{front_same, joined_behind, no_lines}
use Rattle.cl_short_vec_correct.proofs.Spoken.{says_vector, placed_private, line_others, line_tells, initial_others}
use Rattle.cl_short_vec_correct.proofs.Spoken.{initial_tells}
use Rattle.cl_short_vec_correct.proofs.Initials.{tree_is, declaring, Stays, declarator_stays, Initial, initial_cases}
use Rattle.cl_short_vec_correct.proofs.BlockLines.{joined_again, front_sound, rest_sound, lines_grow, stands_lines}
use Rattle.cl_short_vec_correct.proofs.Declarations.{owns_declarators, plain_says}
use Rattle.cl_short_vec_correct.proofs.NamesSpelled.{HasWords, HaveWords}

-- ---- parts

pub small_parts : (form : Form) (all : Forest) (names : Names) (front : Bool) (ps : Forest) → SmallNames names →
    SmallMarks (marked_parts form all names front ps)
unfolding marked_parts
small_parts form all names front none n = tt
small_parts form all names front (more p ps) n = (
  marked_small p names n,
  small_parts form all (kinds.later form all names front p) false ps (later_small form all names front p n),
)

-- nothing is refused in any of the parts, which have that role
abbrev pub AllStayAs : Role → Marks → Type 0
AllStayAs role unmarked = Unit {0}
AllStayAs role (marking m ms) = (refusals role m ≡ []) × AllStayAs role ms

pub stay_as : (r role : Role) (whole : Mark) (ms : Marks) →
    ((y : Bool) (p : Mark) → role_of role whole false y p ≡ r) → refusals_in role whole false ms ≡ [] → AllStayAs r ms
unfolding refusals_in
stay_as r role whole unmarked g e = tt
stay_as r role whole (marking p ps) g e = (
  subst (λ z. refusals z p ≡ []) (g (is_end ps) p)
      (nothing_front (refusals (role_of role whole false (is_end ps) p) p) (refusals_in role whole false ps) e),
  stay_as r role whole ps g
      (nothing_behind (refusals (role_of role whole false (is_end ps) p) p) (refusals_in role whole false ps) e),
)

-- what is not refused of a declaration
pub declaration_stays : (role : Role) (names : Names) (w : List ℕ) (f' l : ℕ) (type : Syntax) (ds : Forest) →
    refusals role (marked names (node forms.DeclareNode w f' l (more type ds))) ≡ [] →
    AllStayAs (Declared (record {
      around = around_of role;
      vector = vector_type (tree_at (marked names type));
      space = space_among (parts_of type);
    })) (marked_parts forms.DeclareNode (more type ds) names false ds)
unfolding refusals refusals_in role_of marked marked_parts
declaration_stays role names w f' l type ds r =
    let m = marked names (node forms.DeclareNode w f' l (more type ds)) in
    let ms = marked_parts forms.DeclareNode (more type ds) names false ds in
    let first = refusals (role_of role m true (is_end ms) (marked names type)) (marked names type) in
    let all = refusals_in role m false ms in
    subst (λ z. AllStayAs (Declared (record {
      around = around_of role;
      vector = vector_type (tree_at (marked names type));
      space = space_among (parts_of z);
    })) ms) (tree_is names type) (stay_as (Declared (record {
      around = around_of role;
      vector = vector_type (tree_at (marked names type));
      space = space_among (parts_of (tree_at (marked names type)));
    })) role m ms (λ y p. refl) (nothing_behind first all (nothing_front (first ++ all) (refusal_at role m) r)))

value_is : (e : Syntax) → IsExpressionOf true e → IsValue e
value_is (node forms.StarNode w f l ps) h = absurd h
value_is (node form w f l ps) h = inl h

one_line : (env : Env) (t : Syntax) → behind_parts env forms.BlockNode false (more t none) ≡ behind env t
one_line env t = line_behind env false t none ∙ no_lines (behind env t)

module _ (P : Program) (f : Function) (asked : Asked) (vars : List Variable) (arrs : List Array)
    (fin : Finals f vars arrs) (locals : Locals P f asked vars arrs) where
  abbrev There : Names → Env → Type 0
  There = Stands P f asked vars arrs

  abbrev Ending : Env → Type 0
  Ending = Ends P f asked vars arrs

  -- Behind a vector type: `outer` are the names in front of the declaration.
  module _ (v : Vector) (outer : Names) (type : Syntax) (typed : IsType type) (vector : vector_type type ≡ Some v)
      (few : v.count ≤ 16) where
    abbrev t : Mark
    t = marked outer type

    -- ---- one declarator

    -- where that is its initialiser
    abbrev DeclaratorShown : Names → Env → Before → Forest → Syntax → Option Mark → Type 0
    DeclaratorShown names env b rest d o =
        SoundParts asked env forms.BlockNode b (joined (declarator_lines v t (marked names d) o) rest) →
        Ending (behind_parts env forms.BlockNode false (declarator_lines v t (marked names d) o)) →
        ((sites : List Place) → DeclaratorDoes P env sites v t (marked names d) o) ×
        Says (behind_declared (Some v) names type d)
        (behind_parts env forms.BlockNode false (declarator_lines v t (marked names d) o))

    no_initial : (names : Names) (env : Env) (b : Before) (rest : Forest) (w : List ℕ) (f' l : ℕ) (ps : Forest) →
        IsDeclaratorOf true (node forms.DeclaratorNode w f' l ps) → IsOwn (name_in w) →
        Stays around.Block v (space_among (parts_of type)) names w f' l ps → There names env →
        DeclaratorShown names env b rest (node forms.DeclaratorNode w f' l ps) None
    unfolding marked
    no_initial names env b rest w f' l ps h own stays st s e =
        let d = node forms.DeclaratorNode w f' l ps in
        let ms = marked_parts forms.DeclaratorNode ps names true ps in
        let tys = type_is type outer typed in
        let deep = st.here.within.deep in
        let decls = vector_declarator v d names few (marked_small d names st.small) h in
        let line = node forms.DeclareNode (codes ";") f' l (more (scalar t) (declarators_by v d ms)) in (
          λ sites. tt,
          subst (Says (behind_declared (Some v) names type d)) (sym (one_line env line))
              (says_vector names env (behind env line) v type d st.says st.own
              (line_others v outer type d ms env own tys decls deep)
              (λ va c i. line_tells v outer type d ms env tys typed vector
              (placed_private around.Block (space_among (parts_of type)) w ps stays.placed va) va deep c i)),
        )

    some_initial : (names : Names) (env : Env) (b : Before) (rest : Forest) (w : List ℕ) (f' l : ℕ) (ps : Forest)
        (e : Syntax) → IsDeclaratorOf true (node forms.DeclaratorNode w f' l ps) → IsOwn (name_in w) →
        Stays around.Block v (space_among (parts_of type)) names w f' l ps → There names env →
        Initial v names (node forms.DeclaratorNode w f' l ps) e →
        DeclaratorShown names env b rest (node forms.DeclaratorNode w f' l ps) (Some (marked names e))
    unfolding marked
    some_initial names env b rest w f' l ps e h own stays st i s en =
        let d = node forms.DeclaratorNode w f' l ps in
        let private = placed_private around.Block (space_among (parts_of type)) w ps stays.placed i.variable in
        let tys = type_is type outer typed in
        let deep = st.here.within.deep in
        let steps = initial_are v (declared_name d) e names (marked_small e names st.small) (value_is e i.value) in
        let a : Assigned = record {
          operator = None;
          of = v.of;
          target = name_span (tree_at (marked names d));
          components = [];
          value = marked names e;
        } in (
          λ sites. locals.declarator outer names env sites v type d e (record {
            stands = st;
            typed = typed;
            type_vector = vector;
            private = private;
            declarator = h;
            variable = i.variable;
            named = own;
            value = i.value;
            value_sourced = i.sourced;
            same = i.same;
            value_stays = i.stays;
            before = b;
            rest = rest;
            sound = s;
            ends = en;
          }),
          says_vector names env (behind_parts env forms.BlockNode false
              (declarator_lines v t (marked names d) (Some (marked names e)))) v type d st.says st.own
              (initial_others v outer type d env a (marked names e) own tys steps deep)
              (λ va c k. initial_tells v outer type d env a (marked names e) tys typed vector private steps deep c k),
        )

    one_declarator : (names : Names) (env : Env) (b : Before) (rest : Forest) (w : List ℕ) (f' l : ℕ) (ps : Forest) →
        IsDeclaratorOf true (node forms.DeclaratorNode w f' l ps) → IsOwn (name_in w) → HaveWords ps →
        Stays around.Block v (space_among (parts_of type)) names w f' l ps → There names env →
        DeclaratorShown names env b rest (node forms.DeclaratorNode w f' l ps)
        (initialiser (marked names (node forms.DeclaratorNode w f' l ps)))
    one_declarator names env b rest w f' l ps h own so stays st =
        by (initial_cases v (space_among (parts_of type)) names w f' l ps h so stays)
      where
        d : Syntax
        d = node forms.DeclaratorNode w f' l ps

        by : (initialiser (marked names d) ≡ None) ⊎ ((e : Syntax) × Initial v names d e) →
            DeclaratorShown names env b rest d (initialiser (marked names d))
        by (inl n) = subst (DeclaratorShown names env b rest d) (sym n)
            (no_initial names env b rest w f' l ps h own stays st)
        by (inr (e, i)) = subst (DeclaratorShown names env b rest d) (sym i.at)
            (some_initial names env b rest w f' l ps e h own stays st i)

    -- ---- all of them

    several : (ds all : Forest) (names : Names) (env : Env) (b : Before) (rest : Forest) → AreDeclaratorsOf true ds →
        HaveWords ds → AllOwn ds →
        AllStayAs (declaring around.Block v (space_among (parts_of type)))
        (marked_parts forms.DeclareNode (more type all) names false ds) → There names env →
        SoundParts asked env forms.BlockNode b
        (joined (vector_lines v t (marked_parts forms.DeclareNode (more type all) names false ds)) rest) →
        Ending (behind_parts env forms.BlockNode false
        (vector_lines v t (marked_parts forms.DeclareNode (more type all) names false ds))) →
        ((sites : List Place) →
        DeclaratorsDo P (marked_parts forms.DeclareNode (more type all) names false ds) env sites v t) ×
        Says (behind_declarators names type ds) (behind_parts env forms.BlockNode false
        (vector_lines v t (marked_parts forms.DeclareNode (more type all) names false ds)))
    unfolding marked_parts
    several none all names env b rest h so ow r st s e =
        (λ sites. tt, subst (Says names) (sym (no_lines env)) st.says)
    several (more (node forms.DeclaratorNode w f' l ps) ds) all names env b rest h so ow r st s e =
        let d = node forms.DeclaratorNode w f' l ps in
        let m = marked names d in
        let after = behind_declarator names type d in
        let ms = marked_parts forms.DeclareNode (more type all) after false ds in
        let one = declarator_lines v t m (initialiser m) in
        let others = vector_lines v t ms in
        let tys = type_is type outer typed in
        let small = behind_declarator_small names type d st.small in
        let s1 = subst (SoundParts asked env forms.BlockNode b) (joined_again one others rest) s in
        let h1 = declarator_lines_are v t d names few tys (marked_small d names st.small) h.0 in
        let h2 = vector_lines_are v t forms.DeclareNode (more type all) after false ds few tys
        (small_parts forms.DeclareNode (more type all) after false ds small) h.1 in
        let f1 = front_sound asked one (joined others rest) env b s1 in
        let x2 = rest_sound asked one (joined others rest) env b false s1 in
        let mid = behind_parts env forms.BlockNode false one in
        let last = behind_parts mid forms.BlockNode false others in
        let g1 = lines_grow P f asked vars arrs fin one env b false h1 f1 st.here.within in
        let g2 = lines_grow P f asked vars arrs fin others mid x2.0 false h2
        (front_sound asked others rest mid x2.0 x2.1)
        (within_later env mid st.here.within g1) in
        let e2 = subst Ending (joined_behind env false one others) e in
        let e1 = ends_before P f asked vars arrs mid last g2 e2 in
        let stays = declarator_stays around.Block v (space_among (parts_of type)) names w f' l ps r.0 in
        let y = one_declarator names env b (joined others rest) w f' l ps h.0 ow.0.0
        so.0.1 stays st s1 e1 in
        let says = subst (λ o. Says (behind_declared o names type d) mid) (sym vector) y.1 in
        let own = owns_declarators names type (more d none) st.own (ow.0, tt) (h.0, tt) in
        let st1 = stands_lines P f asked vars arrs fin one names after env b false h1 f1 st e1 says own small
        (behind_declarator_whole names type d st.whole) (behind_declarator_named names type d st.named) in
        let z = several ds all after mid x2.0 rest h.1 so.1 ow.1 r.1 st1 x2.1 e2 in (
          λ sites. (y.0 sites, z.0 _),
          subst (Says (behind_declarators after type ds)) (sym (joined_behind env false one others)) z.1,
        )
    several (more d ds) all names env b rest h so ow r st s e = absurd h.0

  -- ---- a declaration

  -- the lines of a declaration, and what is in hand behind them
  pub record DeclaredHere (names : Names) (env : Env) (front : Bool) (t : Syntax) : Type 0 where
    pub does : (sites : List Place) → DeclarationDoes P env sites (marked names t)
    pub stands : There (kinds.behind names t)
        (behind_parts env forms.BlockNode front (declaration_lines (marked names t)))

  -- by the vector that its type is
  abbrev TypeShown : Names → Env → Before → (rest : Forest) → (type tree : Syntax) → (ds : Forest) → Option Vector →
      Type 0
  TypeShown names env b rest type tree ds o =
      vector_type type ≡ o →
      AllStayAs (Declared (record { around = around.Block; vector = o; space = space_among (parts_of type) }))
      (marked_parts forms.DeclareNode (more type ds) names false ds) →
      SoundParts asked env forms.BlockNode b (joined (lines_by o tree (marked names type)
      (marked_parts forms.DeclareNode (more type ds) names false ds)) rest) →
      Ending (behind_parts env forms.BlockNode false (lines_by o tree (marked names type)
      (marked_parts forms.DeclareNode (more type ds) names false ds))) →
      ((sites : List Place) → TypedDo P o env sites (marked names type)
      (marked_parts forms.DeclareNode (more type ds) names false ds)) ×
      Says (behind_declarators names type ds) (behind_parts env forms.BlockNode false
      (lines_by o tree (marked names type) (marked_parts forms.DeclareNode (more type ds) names false ds)))

  type_shown : (names : Names) (env : Env) (b : Before) (rest : Forest) (w : List ℕ) (f' l : ℕ) (type : Syntax)
      (ds : Forest) → IsType type → AreDeclaratorsOf true ds → HaveWords ds → AllOwn ds → There names env →
      (o : Option Vector) → SmallVector o →
      TypeShown names env b rest type (node forms.DeclareNode w f' l (more type ds)) ds o
  unfolding scalars
  type_shown names env b rest w f' l type ds h k so ow st None few v r s e =
      let inner = scalars (marked_parts forms.DeclareNode (more type ds) names false ds) in
      let line = node forms.DeclareNode w f' l (more (scalar (marked names type)) inner) in (
        λ sites. tt,
        subst (Says (behind_declarators names type ds)) (sym (one_line env line))
            (plain_says names names env w f' l type ds (more type ds) h k ow
            (small_parts forms.DeclareNode (more type ds) names false ds st.small) v st.here.within.deep st.says
            st.own),
      )
  type_shown names env b rest w f' l type ds h k so ow st (Some u) few v r s e =
      several u names type h v few ds ds names env b rest k so ow r st s e

  pub declaration_does : (names : Names) (env : Env) (front : Bool) (b : Before) (t : Syntax) (rest : Forest) →
      IsDeclarationOf true t → HasWords t → Own t → refusals Free (marked names t) ≡ [] → There names env →
      SoundParts asked env forms.BlockNode b (joined (declaration_lines (marked names t)) rest) →
      Ending (behind_parts env forms.BlockNode front (declaration_lines (marked names t))) →
      DeclaredHere names env front t
  unfolding marked marked_parts
  declaration_does names env front b (node forms.DeclareNode w f' l (more type ds)) rest h so ow r st s e =
      let t = node forms.DeclareNode w f' l (more type ds) in
      let ls = declaration_lines (marked names t) in
      let ms = marked_parts forms.DeclareNode (more type ds) names false ds in
      let fs = front_same env front ls in
      let e' = subst Ending fs e in
      let x = type_shown names env b rest w f' l type ds h.0 h.1 so.1.1 ow.1.1 st
      (vector_type (tree_at (marked names type))) (type_small (tree_at (marked names type)))
      (ap vector_type (sym (tree_is names type)))
      (declaration_stays Free names w f' l type ds r) s e' in
      let hl = declaration_lines_are t names (marked_small t names st.small) h in
      let st' = stands_lines P f asked vars arrs fin ls names (behind_declarators names type ds) env b false hl
      (front_sound asked ls rest env b s) st e' x.1 (owns_declarators names type ds st.own ow.1.1 h.1)
      (behind_small names t st.small) (behind_whole names t st.whole) (behind_named names t st.named) in
      record { does = x.0; stands = subst (There (behind_declarators names type ds)) (sym fs) st' }
  declaration_does names env front b t rest h so ow r st s e = absurd h
