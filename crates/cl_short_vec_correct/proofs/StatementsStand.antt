-- What stands for each vector statement of a function stands in the body of the function.
use Rattle.std.proofs.Common.{◌≡◌, ℕ, ℤ, List, [], ◌∷◌, length, Option, None, Some, Bool, true, false, ◌&&◌}
use Rattle.std.proofs.Common.{if◌then◌else◌, refl, ap, sym, ◌∙◌, subst, inl, inr}
use Rattle.std.proofs.lemmas.Bool.{false≢true}
use Rattle.wg_num.specs.declared.types.Place.{Place}
use Rattle.cl_model.specs.Tree.{Program, Expression, Statement, Statements, empty, Block, If, Loop, Switch}
use Rattle.cl_model.specs.Calls.{function_at}
use Rattle.cl_tree.specs.declared.tree.Form.TheVariants as forms
use Rattle.cl_tree.specs.Syntax.{Syntax, node, Forest, none, more, joined}
use Rattle.cl_tree.specs.Nodes.{forest1}
use Rattle.cl_meaning.specs.Spelling.{setting_in}
use Rattle.cl_meaning.specs.Environment.{Env, place_of}
use Rattle.cl_meaning.specs.Declarations.{form_of}
use Rattle.cl_meaning.specs.Typed.{What, Piece, Built, labelled}
use Rattle.cl_meaning.specs.Statements.{followed, alone, lines_of, body_of, all_lines, labelled_by, arms_of}
use Rattle.cl_meaning.specs.Statements.{second_is_test, for_made, loop_made}
use Rattle.cl_meaning.specs.Expressions.{read}
use Rattle.cl_meaning.specs.Visible.{inside, later, behind, behind_parts, kind_of, in_block, in_loop, in_switch, apart}
use Rattle.cl_meaning.specs.Visible.{opened, visible_at}
use Rattle.cl_meaning.specs.Meant.{meant, parts_meant, make}
use Rattle.cl_check_sound.specs.Shape.{IsExpressionOf, IsStatementOf, AreStatementsOf, AreLinesOf, IsStatement}
use Rattle.cl_check_sound.specs.Shape.{IsDeclarationOf}
use Rattle.cl_check_sound.specs.Shape.{AreStatements}
use Rattle.cl_short_vec.specs.declared.nodes.Span.{Span}
use Rattle.cl_short_vec.specs.declared.types.Vector.{Vector}
use Rattle.cl_short_vec.specs.Types.{vector_type}
use Rattle.cl_short_vec.specs.Kinds.{Names, is_vector}
use Rattle.cl_short_vec.specs.Kinds as kinds
use Rattle.cl_short_vec.specs.Marks.{Mark, mark, Marks, unmarked, marking, tree_at, kind_at, marked, marked_parts}
use Rattle.cl_short_vec.specs.Order.{operator_in}
use Rattle.cl_short_vec.specs.Scalar.{scalar}
use Rattle.cl_short_vec.specs.Unit.{set_block, scalarised, all_scalarised, block_lines, block_line, loop_parts}
use Rattle.cl_short_vec.specs.Unit.{declarator_lines, vector_lines, declaration_lines, is_declaration, initialiser}
use Rattle.cl_short_vec.specs.Unit.{lines_by, whole_by}
use Rattle.cl_short_vec.proofs.Small.{SmallNames, marked_small, behind_small}
use Rattle.cl_short_vec_correct.specs.Standing.{Within, inside as within, InStatement, block}
use Rattle.cl_short_vec_correct.specs.Standing.{chosen, other, looped, switched}
use Rattle.cl_short_vec_correct.specs.Each.{SettingStands, DeclaratorStands, EachStands, PartsStand, Throughout}
use Rattle.cl_short_vec_correct.specs.Each.{ThroughParts, OfWhole, OfDeclarators, OfTyped, OfDeclaration}
use Rattle.cl_short_vec_correct.specs.Each.{PartDoes, is_assignment}
use Rattle.cl_short_vec_correct.proofs.Within.{followed_again, followed_nothing, past, itself, front_within}
use Rattle.cl_short_vec_correct.proofs.Within.{rest_within}
use Rattle.cl_short_vec_correct.proofs.Within.{in_one, IsOne, AllOne, AllWithin, switch_all}
use Rattle.cl_short_vec_correct.proofs.Owners.{Same, behind_same, later_same, parts_same, block_same}
use Rattle.cl_short_vec_correct.proofs.FormUnits.{statement_is, statements_are}
use Rattle.cl_short_vec_correct.proofs.Forms.{statement_declares_not, declaration_declares, first_of_for}
use Rattle.cl_short_vec_correct.proofs.Blocks.{front_meant}

-- ---- statements are one statement each

labelled_one : (ls : List ℤ) (d : Bool) (w : What) → lines_of (labelled_by ls d w) ≡ alone (body_of w)
labelled_one ls d (labelled ls' d' s) = refl
labelled_one ls d w = refl

labelled_is : (ls : List ℤ) (d : Bool) (w : What) → IsOne (labelled_by ls d w)
labelled_is ls d (labelled ls' d' s) = refl
labelled_is ls d w = refl

either_built : (P : Built → Type 0) (b : Bool) (v w : Built) → P v → P w → P (if b then v else w)
either_built P true v w h k = h
either_built P false v w h k = k

pub is_one : (t : Syntax) (env : Env) (sites : List Place) → IsStatement t → IsOne (meant env sites t).piece.what
unfolding meant parts_meant make
is_one (node forms.BlockNode w f l ps) env sites h = refl
is_one (node forms.SimpleNode w f l ps) env sites h = refl
is_one (node forms.IfNode w f l (more c (more a none))) env sites h = refl
is_one (node forms.IfNode w f l (more c (more a (more b none)))) env sites h = refl
is_one (node forms.WhileNode w f l (more c (more a none))) env sites h = refl
is_one (node forms.DoNode w f l (more a (more c none))) env sites h = refl
is_one (node forms.ForNode w f l (more i (more a none))) env sites h = refl
is_one (node forms.ForNode w f l (more i (more c (more a none)))) env sites h =
    either_built (λ z. IsOne z.what) (second_is_test (more i (more c (more a none)))) _ _ refl refl
is_one (node forms.ForNode w f l (more i (more c (more e (more a none))))) env sites h = refl
is_one (node forms.SwitchNode w f l (more v ss)) env sites h = refl
is_one (node forms.CaseNode w f l (more v (more a none))) env sites h = labelled_is _ _ _
is_one (node forms.DefaultNode w f l (more a none)) env sites h = labelled_is _ _ _
is_one (node forms.BreakNode w f l none) env sites h = refl
is_one (node forms.ContinueNode w f l none) env sites h = refl
is_one (node forms.ReturnNode w f l ps) env sites h = refl
is_one t env sites h = absurd h

-- ---- pieces of statements

all_one : (ps : Forest) (env : Env) (sites : List Place) → AreStatements ps →
    AllOne (parts_meant env forms.SwitchNode false sites ps).pieces
unfolding parts_meant
all_one none env sites h = tt
all_one (more p ps) env sites h = (is_one p env sites h.0, all_one ps _ _ h.1)

-- lines in front of others
pub joined_meant : (xs ys : Forest) (env : Env) (front : Bool) (sites : List Place) →
    all_lines (parts_meant env forms.BlockNode front sites (joined xs ys)).pieces ≡
    followed (all_lines (parts_meant env forms.BlockNode front sites xs).pieces)
    (all_lines (parts_meant (behind_parts env forms.BlockNode front xs) forms.BlockNode false
    (parts_meant env forms.BlockNode front sites xs).sites ys).pieces)
unfolding parts_meant behind_parts
joined_meant none ys env true sites = ap (λ z. all_lines z.pieces) (front_meant env sites ys)
joined_meant none ys env false sites = refl
joined_meant (more p xs) ys env front sites =
    let e = later (behind env p) forms.BlockNode front p (kind_of env p) in
    let ss = lines_of (meant env sites p).piece.what in
    let q = (meant env sites p).sites in
    ap (λ z. followed ss z) (joined_meant xs ys e false q) ∙
    sym (followed_again ss (all_lines (parts_meant e forms.BlockNode false q xs).pieces)
    (all_lines (parts_meant (behind_parts e forms.BlockNode false xs) forms.BlockNode false
    (parts_meant e forms.BlockNode false q xs).sites ys).pieces))

front_lines : (front : Bool) (ps : Forest) (env : Env) (sites : List Place) →
    all_lines (parts_meant env forms.BlockNode front sites ps).pieces ≡
    all_lines (parts_meant env forms.BlockNode false sites ps).pieces
front_lines true ps env sites = ap (λ z. all_lines z.pieces) (front_meant env sites ps)
front_lines false ps env sites = refl

one_line : (p : Syntax) (env : Env) (front : Bool) (sites : List Place) →
    all_lines (parts_meant env forms.BlockNode front sites (forest1 p)).pieces ≡
    lines_of (meant env sites p).piece.what
unfolding parts_meant
one_line p env front sites = followed_nothing (lines_of (meant env sites p).piece.what)

module _ (P : Program) (body : Statements) where
  -- this is the body of the function that is under way there
  abbrev pub Of : Env → Type 0
  Of env = (function_at P env.owner.number).body ≡ body

  of_same : (env to : Env) → Same env to → Of env → Of to
  of_same env to e h = ap (λ z. (function_at P z).body) e ∙ h

  -- what a node stands for stands there
  abbrev pub In : Env → List Place → Syntax → Type 0
  In env sites t = Within (lines_of (meant env sites t).piece.what) body

  abbrev pub LinesIn : Env → Bool → List Place → Forest → Type 0
  LinesIn env front sites ps = Within (all_lines (parts_meant env forms.BlockNode front sites ps).pieces) body

  -- a statement that stands in one that stands there by itself
  child : (t : Syntax) (env : Env) (sites : List Place) (s : Statement) → IsStatement t →
      (Within (alone (body_of (meant env sites t).piece.what)) (alone (body_of (meant env sites t).piece.what)) →
      InStatement (alone (body_of (meant env sites t).piece.what)) s) → Within (alone s) body → In env sites t
  child t env sites s h i w =
      let x = (meant env sites t).piece.what in
      subst (λ z. Within z body) (sym (is_one t env sites h))
      (in_one (alone (body_of x)) s body (i (itself (alone (body_of x)))) w)

  -- ---- expressions

  expression_stands : (names : Names) (env : Env) (sites : List Place) (t : Syntax) → IsExpressionOf true t →
      EachStands P (marked names t) env sites
  unfolding Throughout marked
  expression_stands names env sites (node forms.UnitNode w f l ps) h = absurd h
  expression_stands names env sites (node forms.FunctionNode w f l ps) h = absurd h
  expression_stands names env sites (node forms.BlockNode w f l ps) h = absurd h
  expression_stands names env sites (node forms.IfNode w f l ps) h = absurd h
  expression_stands names env sites (node forms.WhileNode w f l ps) h = absurd h
  expression_stands names env sites (node forms.DoNode w f l ps) h = absurd h
  expression_stands names env sites (node forms.ForNode w f l ps) h = absurd h
  expression_stands names env sites (node forms.SwitchNode w f l ps) h = absurd h
  expression_stands names env sites (node forms.CaseNode w f l ps) h = absurd h
  expression_stands names env sites (node forms.DefaultNode w f l ps) h = absurd h
  expression_stands names env sites (node forms.SimpleNode w f l ps) h = absurd h
  expression_stands names env sites (node form w f l ps) h = tt

  -- ---- declarations and simple statements

  declarator_stands : (v : Vector) (type d : Mark) (i : Option Mark) (env : Env) (sites : List Place) → Of env →
      LinesIn env false sites (declarator_lines v type d i) → DeclaratorStands P env sites v type d i
  declarator_stands v type d None env sites o w = tt
  declarator_stands v type d (Some e) env sites o w =
      subst (λ z. Within (all_lines (parts_meant env forms.BlockNode false sites
      (declarator_lines v type d (Some e))).pieces) z) (sym o) w

  declarators_stand : (v : Vector) (type : Mark) (ds : Marks) (env : Env) (sites : List Place) → Of env →
      LinesIn env false sites (vector_lines v type ds) →
      OfDeclarators (SettingStands P) (DeclaratorStands P) ds env sites v type
  declarators_stand v type unmarked env sites o w = tt
  declarators_stand v type (marking d ds) env sites o w =
      let xs = declarator_lines v type d (initialiser d) in
      let ys = vector_lines v type ds in
      let to = behind_parts env forms.BlockNode false xs in
      let a = all_lines (parts_meant env forms.BlockNode false sites xs).pieces in
      let q = (parts_meant env forms.BlockNode false sites xs).sites in
      let b = all_lines (parts_meant to forms.BlockNode false q ys).pieces in
      let w' = subst (λ z. Within z body) (joined_meant xs ys env false sites) w in (
        declarator_stands v type d (initialiser d) env sites o (front_within a b body w'),
        declarators_stand v type ds to q (of_same env to (parts_same forms.BlockNode xs env false) o)
            (rest_within a b body w'),
      )

  declaration_stands : (m : Mark) (env : Env) (sites : List Place) → Of env →
      LinesIn env false sites (declaration_lines m) →
      OfDeclaration (SettingStands P) (DeclaratorStands P) env sites m
  declaration_stands (mark t k unmarked) env sites o w = tt
  declaration_stands (mark t k (marking type ds)) env sites o w = by (vector_type (tree_at type)) w
    where
      by : (v : Option Vector) → LinesIn env false sites (lines_by v t type ds) →
          OfTyped (SettingStands P) (DeclaratorStands P) v env sites type ds
      by None w = tt
      by (Some v) w = declarators_stand v type ds env sites o w

  no_setting : (env : Env) (sites : List Place) (s : Span) (m : Mark) → is_assignment (form_of (tree_at m)) ≡ false →
      OfWhole (SettingStands P) (DeclaratorStands P) env sites s m
  no_setting env sites s (mark t k unmarked) e = tt
  no_setting env sites s (mark t k (marking a unmarked)) e = tt
  no_setting env sites s (mark t k (marking a (marking b (marking c cs)))) e = tt
  no_setting env sites s (mark t k (marking a (marking b unmarked))) e =
      λ h. absurd (never (is_assignment (form_of t)) (is_vector (kind_at a)) e h)
    where
      never : (x y : Bool) → x ≡ false → x && y ≡ true → ⊥
      never true y e h = false≢true (sym e)
      never false y e h = false≢true h

  whole_stands : (w : List ℕ) (f l : ℕ) (s : Span) (names : Names) (env : Env) (sites : List Place) (a : Syntax) →
      IsExpressionOf true a → Of env → In env sites (whole_by (form_of (tree_at (marked names a))) s (marked names a)
      (node forms.SimpleNode w f l (forest1 (scalar (marked names a))))) →
      OfWhole (SettingStands P) (DeclaratorStands P) env sites s (marked names a)
  unfolding marked marked_parts
  whole_stands w f l s names env sites (node forms.AssignNode w' f' l' none) h o i = absurd h
  whole_stands w f l s names env sites (node forms.AssignNode w' f' l' (more a none)) h o i = absurd h
  whole_stands w f l s names env sites (node forms.AssignNode w' f' l' (more a (more b (more c cs)))) h o i = absurd h
  whole_stands w f l s names env sites (node forms.AssignNode w' f' l' (more a (more b none))) h o i = λ e.
      let m = marked names a in
      let n = marked (kinds.later forms.AssignNode (more a (more b none)) names true a) b in
      let t = node forms.AssignNode w' f' l' (more a (more b none)) in
      let lines = set_block s (operator_in (setting_in w')) m n in
      subst (λ z. Within (lines_of (meant env sites lines).piece.what) z) (sym o)
      (subst (λ z. In env sites (if z then lines else node forms.SimpleNode w f l (forest1 (scalar (marked names t)))))
      e i)
  whole_stands w f l s names env sites (node form w' f' l' ps) h o i =
      no_setting env sites s (marked names (node form w' f' l' ps)) refl

  -- ---- loops, and lines of a block

  -- the body of a `for`
  loop_in : (place : Place) (sites : List Place) (i : Piece) (test step : Option Expression) (a : Piece) →
      IsOne a.what → Within (lines_of (for_made place sites i test step a).what) body →
      Within (lines_of a.what) body
  loop_in place sites i test step a h w =
      let ss = alone (body_of a.what) in
      let ls = lines_of i.what in
      let l = Loop (length sites) true test step (body_of a.what) in
      subst (λ z. Within z body) (sym h) (in_one ss (Block (followed ls (alone l))) body
      (block (followed ls (alone l)) (past ls (alone l) (within l empty
      (looped (length sites) true test step (body_of a.what) (itself ss))))) w)

  loops_in : (place : Place) (sites : List Place) (parts : Forest) (i e a : Piece) → IsOne a.what →
      Within (lines_of (loop_made place sites parts (i ∷ e ∷ a ∷ [])).what) body → Within (lines_of a.what) body
  loops_in place sites parts i e a h w = by (second_is_test parts) w
    where
      by : (b : Bool) → Within (lines_of (if b then for_made place sites i (Some (read e.what)) None a else
          for_made place sites i None (Some (read e.what)) a).what) body → Within (lines_of a.what) body
      by true w = loop_in place sites i (Some (read e.what)) None a h w
      by false w = loop_in place sites i None (Some (read e.what)) a h w

  -- a line that is a declaration, and one that is a statement
  line_declares : (p : Syntax) (names : Names) (front : Bool) (env : Env) (sites : List Place) →
      IsDeclarationOf true p → Of env →
      LinesIn env front sites (block_line (marked names p) (scalarised (marked names p))) →
      PartDoes forms.BlockNode front (is_declaration (marked names p))
      (OfDeclaration (SettingStands P) (DeclaratorStands P) env sites (marked names p))
      (EachStands P (marked names p) env sites)
  line_declares p names front env sites h o w =
      let m = marked names p in
      let z = declaration_declares names p h in
      subst (λ x. PartDoes forms.BlockNode front x
      (OfDeclaration (SettingStands P) (DeclaratorStands P) env sites m) (EachStands P m env sites)) (sym z)
      (declaration_stands m env sites o (subst (λ x. Within x body) (front_lines front (declaration_lines m) env sites)
      (subst (λ x. LinesIn env front sites (if x then declaration_lines m else forest1 (scalarised m))) z w)))

  line_states : (p : Syntax) (names : Names) (front : Bool) (env : Env) (sites : List Place) →
      IsStatementOf true p → (In env sites (scalarised (marked names p)) → EachStands P (marked names p) env sites) →
      LinesIn env front sites (block_line (marked names p) (scalarised (marked names p))) →
      PartDoes forms.BlockNode front (is_declaration (marked names p))
      (OfDeclaration (SettingStands P) (DeclaratorStands P) env sites (marked names p))
      (EachStands P (marked names p) env sites)
  line_states p names front env sites h k w =
      let m = marked names p in
      let z = statement_declares_not names p h in
      subst (λ x. PartDoes forms.BlockNode front x
      (OfDeclaration (SettingStands P) (DeclaratorStands P) env sites m) (EachStands P m env sites)) (sym z)
      (k (subst (λ x. Within x body) (one_line (scalarised m) env front sites)
      (subst (λ x. LinesIn env front sites (if x then declaration_lines m else forest1 (scalarised m))) z w)))

  -- ---- statements

  mutual
    unfolding Throughout ThroughParts scalarised all_scalarised block_lines loop_parts scalar marked marked_parts meant
        parts_meant make inside behind_parts later

    pub stands : (t : Syntax) (names : Names) (env : Env) (sites : List Place) → SmallNames names →
        IsStatementOf true t → Of env → In env sites (scalarised (marked names t)) →
        EachStands P (marked names t) env sites
    stands (node forms.BlockNode w f l ps) names env sites sm h o i =
        let e = in_block env in
        let ss = all_lines (parts_meant e forms.BlockNode true sites
        (block_lines (marked_parts forms.BlockNode ps names true ps))).pieces in
        lines_stand ps ps names true e sites sm h (of_same env e (block_same env) o)
        (in_one ss (Block ss) body (block ss (itself ss)) i)
    stands (node forms.SimpleNode w f l none) names env sites sm h o i = tt
    stands (node forms.SimpleNode w f l (more a none)) names env sites sm h o i =
        whole_stands w f l (record { first = f; last = l }) names env sites a h o i
    stands (node forms.IfNode w f l (more c (more a none))) names env sites sm h o i =
        let e = apart env in
        let n = kinds.behind names c in
        let sn = behind_small names c sm in
        let c' = scalarised (marked names c) in
        let a' = scalarised (marked n a) in
        let yc = meant e sites c' in
        let e1 = behind e c' in
        let ya = meant e1 yc.sites a' in
        let test = read yc.piece.what in
        let ss = alone (body_of ya.piece.what) in (
          expression_stands names e sites c h.0,
          (
            stands a n e1 yc.sites sn h.1 (of_same env e1 (behind_same e c') o)
                (child a' e1 yc.sites (If (length ya.sites) test ss empty) (statement_is a n (marked_small a n sn) h.1)
                (λ v. chosen (length ya.sites) test ss empty v) i),
            tt,
          ),
        )
    stands (node forms.IfNode w f l (more c (more a (more b none)))) names env sites sm h o i =
        let e = apart env in
        let n = kinds.behind names c in
        let m = kinds.behind n a in
        let sn = behind_small names c sm in
        let sm' = behind_small n a sn in
        let c' = scalarised (marked names c) in
        let a' = scalarised (marked n a) in
        let b' = scalarised (marked m b) in
        let yc = meant e sites c' in
        let e1 = behind e c' in
        let ya = meant e1 yc.sites a' in
        let e2 = behind e1 a' in
        let yb = meant e2 ya.sites b' in
        let test = read yc.piece.what in
        let ss = alone (body_of ya.piece.what) in
        let us = alone (body_of yb.piece.what) in
        let o1 = of_same env e1 (behind_same e c') o in (
          expression_stands names e sites c h.0,
          (
            stands a n e1 yc.sites sn h.1 o1
                (child a' e1 yc.sites (If (length yb.sites) test ss us) (statement_is a n (marked_small a n sn) h.1)
                (λ v. chosen (length yb.sites) test ss us v) i),
            (
              stands b m e2 ya.sites sm' h.2 (of_same e1 e2 (behind_same e1 a') o1)
                  (child b' e2 ya.sites (If (length yb.sites) test ss us)
                  (statement_is b m (marked_small b m sm') h.2)
                  (λ v. other (length yb.sites) test ss us v) i),
              tt,
            ),
          ),
        )
    stands (node forms.WhileNode w f l (more c (more a none))) names env sites sm h o i =
        let e = in_loop env in
        let n = kinds.behind names c in
        let sn = behind_small names c sm in
        let c' = scalarised (marked names c) in
        let a' = scalarised (marked n a) in
        let yc = meant e sites c' in
        let e1 = behind e c' in
        let ya = meant e1 yc.sites a' in
        let test = Some (read yc.piece.what) in
        let s = body_of ya.piece.what in (
          expression_stands names e sites c h.0,
          (
            stands a n e1 yc.sites sn h.1 (of_same env e1 (behind_same e c') o)
                (child a' e1 yc.sites (Loop (length ya.sites) true test None s)
                (statement_is a n (marked_small a n sn) h.1)
                (λ v. looped (length ya.sites) true test None s v) i),
            tt,
          ),
        )
    stands (node forms.DoNode w f l (more a (more c none))) names env sites sm h o i =
        let e = in_loop env in
        let n = kinds.behind names a in
        let a' = scalarised (marked names a) in
        let c' = scalarised (marked n c) in
        let ya = meant e sites a' in
        let e1 = behind e a' in
        let yc = meant e1 ya.sites c' in
        let test = Some (read yc.piece.what) in
        let s = body_of ya.piece.what in (
          stands a names e sites sm h.0 o
              (child a' e sites (Loop (length yc.sites) false test None s)
              (statement_is a names (marked_small a names sm) h.0)
              (λ v. looped (length yc.sites) false test None s v) i),
          (expression_stands n e1 ya.sites c h.1, tt),
        )
    stands (node forms.ForNode w f l (more d (more a none))) names env sites sm h o i =
        let e = opened (in_loop env) in
        let n = kinds.behind names d in
        let sn = behind_small names d sm in
        let d' = first_of_for P names d in
        let a' = scalarised (marked n a) in
        let yd = meant e sites d' in
        let e1 = behind e d' in
        let ya = meant e1 yd.sites a' in (
          tt,
          (
            stands a n e1 yd.sites sn h.1 (of_same env e1 (behind_same e d') o)
                (loop_in (place_of env f) ya.sites yd.piece None None ya.piece
                (is_one a' e1 yd.sites (statement_is a n (marked_small a n sn) h.1)) i),
            tt,
          ),
        )
    stands (node forms.ForNode w f l (more d (more c (more a none)))) names env sites sm h o i =
        let e = opened (in_loop env) in
        let n = kinds.behind names d in
        let m = kinds.behind n c in
        let sn = behind_small names d sm in
        let sm' = behind_small n c sn in
        let d' = first_of_for P names d in
        let c' = scalarised (marked n c) in
        let a' = scalarised (marked m a) in
        let yd = meant e sites d' in
        let e1 = behind e d' in
        let yc = meant e1 yd.sites c' in
        let e2 = behind e1 c' in
        let ya = meant e2 yc.sites a' in (
          tt,
          (
            expression_stands n e1 yd.sites c h.1,
            (
              stands a m e2 yc.sites sm' h.2
                  (of_same env e2 (behind_same e1 c' ∙ behind_same e d') o)
                  (loops_in (place_of (visible_at env (node forms.ForNode w f l (more d' (more c' (more a' none))))) f)
                  ya.sites (more d' (more c' (more a' none))) yd.piece yc.piece ya.piece
                  (is_one a' e2 yc.sites (statement_is a m (marked_small a m sm') h.2)) i),
              tt,
            ),
          ),
        )
    stands (node forms.ForNode w f l (more d (more c (more u (more a none))))) names env sites sm h o i =
        let e = opened (in_loop env) in
        let n = kinds.behind names d in
        let m = kinds.behind n c in
        let k = kinds.behind m u in
        let sn = behind_small names d sm in
        let sm' = behind_small n c sn in
        let sk = behind_small m u sm' in
        let d' = first_of_for P names d in
        let c' = scalarised (marked n c) in
        let u' = scalarised (marked m u) in
        let a' = scalarised (marked k a) in
        let yd = meant e sites d' in
        let e1 = behind e d' in
        let yc = meant e1 yd.sites c' in
        let e2 = behind e1 c' in
        let yu = meant e2 yc.sites u' in
        let e3 = behind e2 u' in
        let ya = meant e3 yu.sites a' in (
          tt,
          (
            expression_stands n e1 yd.sites c h.1,
            (
              expression_stands m e2 yc.sites u h.2,
              (
                stands a k e3 yu.sites sk h.3
                    (of_same env e3 (behind_same e2 u' ∙ (behind_same e1 c' ∙ behind_same e d')) o)
                    (loop_in (place_of env f) ya.sites yd.piece (Some (read yc.piece.what)) (Some (read yu.piece.what))
                    ya.piece (is_one a' e3 yu.sites (statement_is a k (marked_small a k sk) h.3)) i),
                tt,
              ),
            ),
          ),
        )
    stands (node forms.SwitchNode w f l (more v ss)) names env sites sm h o i =
        let e = in_switch env in
        let n = kinds.behind names v in
        let v' = scalarised (marked names v) in
        let ss' = all_scalarised (marked_parts forms.SwitchNode (more v ss) n false ss) in
        let yv = meant e sites v' in
        let e1 = later (behind e v') forms.SwitchNode true v' (kind_of e v') in
        let ys = parts_meant e1 forms.SwitchNode false yv.sites ss' in
        let value = read yv.piece.what in
        let s = Switch (length ys.sites) value (arms_of ys.pieces) in
        let small = (marked_small (node forms.SwitchNode w f l (more v ss)) names sm).1.1 in
        let ones = all_one ss' e1 yv.sites (statements_are forms.SwitchNode (more v ss) n false ss small h.1) in (
          expression_stands names e sites v h.0,
          arms_stand ss (more v ss) n e1 yv.sites (behind_small names v sm) h.1
              (of_same env e1 (later_same forms.SwitchNode (behind e v') true v' (kind_of e v') ∙ behind_same e v') o)
              (switch_all body ys.pieces ones
              (λ x j. in_one x s body (switched (length ys.sites) value (arms_of ys.pieces) j) i)),
        )
    stands (node forms.CaseNode w f l (more v (more a none))) names env sites sm h o i =
        let n = kinds.behind names v in
        let sn = behind_small names v sm in
        let v' = scalarised (marked names v) in
        let a' = scalarised (marked n a) in
        let yv = meant env sites v' in
        let e1 = later (behind env v') forms.CaseNode true v' (kind_of env v') in
        let ya = meant e1 yv.sites a' in
        let one = is_one a' e1 yv.sites (statement_is a n (marked_small a n sn) h.1) in (
          expression_stands names env sites v h.0,
          (
            stands a n e1 yv.sites sn h.1
                (of_same env e1 (later_same forms.CaseNode (behind env v') true v' (kind_of env v') ∙
                behind_same env v') o)
                (subst (λ z. Within z body) (labelled_one _ false ya.piece.what ∙ sym one) i),
            tt,
          ),
        )
    stands (node forms.DefaultNode w f l (more a none)) names env sites sm h o i =
        let a' = scalarised (marked names a) in
        let e = inside env forms.DefaultNode w in
        let ya = meant e sites a' in
        let one = is_one a' e sites (statement_is a names (marked_small a names sm) h) in (
          stands a names e sites sm h o
              (subst (λ z. Within z body) (labelled_one [] true ya.piece.what ∙ sym one) i),
          tt,
        )
    stands (node forms.BreakNode w f l ps) names env sites sm h o i = tt
    stands (node forms.ContinueNode w f l ps) names env sites sm h o i = tt
    stands (node forms.ReturnNode w f l ps) names env sites sm h o i = tt
    stands t names env sites sm h o i = absurd h

    arms_stand : (ps all : Forest) (names : Names) (env : Env) (sites : List Place) → SmallNames names →
        AreStatementsOf true ps → Of env → AllWithin body (parts_meant env forms.SwitchNode false sites
        (all_scalarised (marked_parts forms.SwitchNode all names false ps))).pieces →
        PartsStand P (marked_parts forms.SwitchNode all names false ps) forms.SwitchNode false env sites
    arms_stand none all names env sites sm h o w = tt
    arms_stand (more p ps) all names env sites sm h o w =
        let p' = scalarised (marked names p) in
        let to = later (behind env p') forms.SwitchNode false p' (kind_of env p') in (
          stands p names env sites sm h.0 o w.0,
          arms_stand ps all (kinds.behind names p) to (meant env sites p').sites (behind_small names p sm) h.1
              (of_same env to (later_same forms.SwitchNode (behind env p') false p' (kind_of env p') ∙
              behind_same env p') o) w.1,
        )

    pub lines_stand : (ps all : Forest) (names : Names) (front : Bool) (env : Env) (sites : List Place) →
        SmallNames names → AreLinesOf true ps → Of env →
        LinesIn env front sites (block_lines (marked_parts forms.BlockNode all names front ps)) →
        PartsStand P (marked_parts forms.BlockNode all names front ps) forms.BlockNode front env sites
    lines_stand none all names front env sites sm h o w = tt
    lines_stand (more p ps) all names front env sites sm (inl h, hs) o w =
        let m = marked names p in
        let n = kinds.behind names p in
        let xs = block_line m (scalarised m) in
        let ys = block_lines (marked_parts forms.BlockNode all n false ps) in
        let to = behind_parts env forms.BlockNode front xs in
        let a = all_lines (parts_meant env forms.BlockNode front sites xs).pieces in
        let q = (parts_meant env forms.BlockNode front sites xs).sites in
        let b = all_lines (parts_meant to forms.BlockNode false q ys).pieces in
        let w' = subst (λ z. Within z body) (joined_meant xs ys env front sites) w in (
          line_declares p names front env sites h o (front_within a b body w'),
          lines_stand ps all n false to q (behind_small names p sm) hs
              (of_same env to (parts_same forms.BlockNode xs env front) o) (rest_within a b body w'),
        )
    lines_stand (more p ps) all names front env sites sm (inr h, hs) o w =
        let m = marked names p in
        let n = kinds.behind names p in
        let xs = block_line m (scalarised m) in
        let ys = block_lines (marked_parts forms.BlockNode all n false ps) in
        let to = behind_parts env forms.BlockNode front xs in
        let a = all_lines (parts_meant env forms.BlockNode front sites xs).pieces in
        let q = (parts_meant env forms.BlockNode front sites xs).sites in
        let b = all_lines (parts_meant to forms.BlockNode false q ys).pieces in
        let w' = subst (λ z. Within z body) (joined_meant xs ys env front sites) w in (
          line_states p names front env sites h (λ i. stands p names env sites sm h o i) (front_within a b body w'),
          lines_stand ps all n false to q (behind_small names p sm) hs
              (of_same env to (parts_same forms.BlockNode xs env front) o) (rest_within a b body w'),
        )
