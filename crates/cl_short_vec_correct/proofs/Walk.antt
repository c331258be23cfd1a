-- Each vector statement of a function's block does its steps, where a statement by itself does.
use Rattle.std.proofs.Common.{◌≡◌, ℕ, List, [], None, Some, Bool, true, false, if◌then◌else◌, subst}
use Rattle.std.proofs.Common.{inl, inr, ◌⊎◌}
use Rattle.cl_model.specs.Tree.{Function, Program}
use Rattle.cl_tree.specs.declared.tree.Form.TheVariants as forms
use Rattle.cl_tree.specs.Syntax.{Syntax, node, Forest, none, more, joined, last_of}
use Rattle.cl_tree.specs.Nodes.{forest1}
use Rattle.cl_meaning.specs.declared.kind.Role.{Role}
use Rattle.cl_meaning.specs.declared.kind.Role.TheVariants as roles
use Rattle.cl_meaning.specs.Environment.{Env, Variable, Array}
use Rattle.cl_meaning.specs.Visible.{Before, behind, behind_parts, opened, apart, in_loop}
use Rattle.cl_meaning.specs.Visible.{in_switch, kind_of}
use Rattle.cl_meaning.specs.Faults.{Asked}
use Rattle.cl_check_sound.specs.Shape.{IsStatementOf, AreStatementsOf, AreLinesOf, IsExpressionOf, IsStatement}
use Rattle.cl_check_sound.specs.Shape.{IsExpression, IsDeclarationOf, IsSimpleOf}
use Rattle.cl_check_sound.specs.Sound.{SoundTree, SoundParts}
use Rattle.cl_check_sound.proofs.Grown.{Kept, within_later}
use Rattle.cl_check_sound.proofs.Growth.{expression_leaves, block_is, value_kept}
use Rattle.cl_check_sound.proofs.Growing.{StatementGrows, LinesGrow, SwitchGrows, growing, first_grows}
use Rattle.cl_check_sound.proofs.Facing.{Finals}
use Rattle.cl_check_sound.proofs.Induction.{IsFirst, of_statement, of_lines, of_statements}
use Rattle.cl_check_sound.proofs.Parts.{if_behind, if_sound, else_behind, else_sound, while_behind, while_sound}
use Rattle.cl_check_sound.proofs.Parts.{do_behind, do_sound, for_role, for_behind, for_sound, for1_behind, for1_sound}
use Rattle.cl_check_sound.proofs.Parts.{for2_behind, for2_sound, at_labels, on_labels, switch_behind, switch_sound}
use Rattle.cl_check_sound.proofs.Parts.{on_behind, on_sound, case_env, default_env, case_behind, case_sound}
use Rattle.cl_check_sound.proofs.Parts.{default_behind, default_sound, block_behind, block_sound, line_behind}
use Rattle.cl_check_sound.proofs.Parts.{line_sound}
use Rattle.cl_short_vec.specs.declared.roles.Role.TheVariants.{Free, Head}
use Rattle.cl_short_vec.specs.Kinds.{Names}
use Rattle.cl_short_vec.specs.Kinds as kinds
use Rattle.cl_short_vec.specs.Marks.{marked, marked_parts}
use Rattle.cl_short_vec.specs.Faults.{refusals}
use Rattle.cl_short_vec.specs.Unit.{declaration_lines, scalarised, all_scalarised, block_lines, loop_parts}
use Rattle.cl_short_vec.proofs.Small.{SmallNames, marked_small, behind_small}
use Rattle.cl_short_vec_correct.proofs.FormUnits.{whole_expression, start_is, statement_is, statements_are, lines_is}
use Rattle.cl_short_vec_correct.proofs.FormDeclarations.{declaration_lines_are}
use Rattle.cl_short_vec_correct.proofs.Says.{Own, AllOwn}
use Rattle.cl_short_vec_correct.proofs.Stands.{Stands, Ends, Locals}
use Rattle.cl_short_vec_correct.proofs.Moves.{ends_before, stands_names, stands_apart, stands_loop, stands_switch}
use Rattle.cl_short_vec_correct.proofs.Moves.{stands_labels, stands_for, stands_block, stands_later}
use Rattle.cl_short_vec_correct.proofs.Forms.{AllStay, block_stays, if_stays, while_stays, do_stays, for_stays}
use Rattle.cl_short_vec_correct.proofs.Forms.{switch_stays}
use Rattle.cl_short_vec_correct.proofs.Forms.{case_stays, default_stays, expression_names, statement_names, Does}
use Rattle.cl_short_vec_correct.proofs.Forms.{PartsDoes}
use Rattle.cl_short_vec_correct.proofs.Forms.{if_does, else_does, while_does, do_does, for_does, for1_does, for2_does}
use Rattle.cl_short_vec_correct.proofs.Forms.{switch_does, no_arm_does, arm_does, case_does, default_does, block_does}
use Rattle.cl_short_vec_correct.proofs.Forms.{no_line_does, line_does, declared_does, idle_does, break_does}
use Rattle.cl_short_vec_correct.proofs.Forms.{continue_does, return_does}
use Rattle.cl_short_vec_correct.proofs.Forms.{declaration_declares, statement_declares_not, first_of_for}
use Rattle.cl_short_vec_correct.proofs.Wholes.{whole_does}
use Rattle.cl_short_vec_correct.proofs.Declares.{joined_behind}
use Rattle.cl_short_vec_correct.proofs.BlockLines.{front_sound, rest_sound, lines_grow}
use Rattle.cl_short_vec_correct.proofs.BlockDeclarations.{small_parts, declaration_does}
use Rattle.cl_short_vec_correct.proofs.Heads.{first_stands}
use Rattle.cl_short_vec_correct.proofs.NamesSpelled.{HasWords, HaveWords, expression_sourced}

module _ (P : Program) (f : Function) (asked : Asked) (vars : List Variable) (arrs : List Array)
    (fin : Finals f vars arrs) (locals : Locals P f asked vars arrs) where
  abbrev pub There : Names → Env → Type 0
  There = Stands P f asked vars arrs

  abbrev pub Ending : Env → Type 0
  Ending = Ends P f asked vars arrs

  -- what a statement leaves
  leaves : (env : Env) (role : Role) (t : Syntax) (names : Names) → IsStatement t → SoundTree asked env role t →
      There names env → Kept env (behind env t)
  leaves env role t names h s st =
      of_statement asked StatementGrows LinesGrow SwitchGrows (growing asked) env [] role t h s st.here.within

  -- what stands for expressions and statements
  whole : (names : Names) (c : Syntax) → SmallNames names → IsExpressionOf true c →
      IsExpression (scalarised (marked names c))
  whole names c st h = whole_expression c names (marked_small c names st) h

  first_is : (names : Names) (d : Syntax) → SmallNames names → IsDeclarationOf true d ⊎ IsSimpleOf true d →
      IsFirst (first_of_for P names d)
  first_is names d sm h = start_is d names (marked_small d names sm) h

  -- behind an expression the names are those before it
  stands_behind : (names : Names) (env : Env) (c : Syntax) → IsExpressionOf true c → There names env →
      There (kinds.behind names c) env
  stands_behind names env c h st =
      stands_names P f asked vars arrs names (kinds.behind names c) env (expression_names names c h) st

  -- behind the first part of a `for`, in front of the statement
  behind_first : (d a : Syntax) (names n : Names) (i : Env) (role role' : Role) →
      IsDeclarationOf true d ⊎ IsSimpleOf true d → IsStatementOf true a → Own d → refusals Head (marked names d) ≡ [] →
      SmallNames n → There names i → SoundTree asked i role (first_of_for P names d) →
      SoundTree asked (behind i (first_of_for P names d)) role' (scalarised (marked n a)) →
      Ending (behind (behind i (first_of_for P names d)) (scalarised (marked n a))) →
      There (kinds.behind names d) (behind i (first_of_for P names d))
  behind_first d a names n i role role' h k ow r sm st s s' e =
      let d' = first_of_for P names d in
      let a' = scalarised (marked n a) in
      let g = first_grows asked i role d' (first_is names d st.small h) s st.here.within.deep in
      let w = within_later i (behind i d') st.here.within g in
      let q = of_statement asked StatementGrows LinesGrow SwitchGrows (growing asked) (behind i d') [] role' a'
      (statement_is a n (marked_small a n sm) k) s' w in
      first_stands P f asked vars arrs fin names i role d h ow r st s
      (ends_before P f asked vars arrs (behind i d') (behind (behind i d') a') q.grown e)

  mutual
    unfolding scalarised all_scalarised block_lines loop_parts marked marked_parts

    pub walk : (t : Syntax) (names : Names) (env : Env) (role : Role) → IsStatementOf true t → HasWords t → Own t →
        refusals Free (marked names t) ≡ [] → There names env → SoundTree asked env role (scalarised (marked names t)) →
        Ending (behind env (scalarised (marked names t))) → Does P names env t
    walk (node forms.BlockNode w f' l ps) names env role h so ow r st s e =
        let i = opened (apart env) in
        let ls = block_lines (marked_parts forms.BlockNode ps names true ps) in
        let b = st.here.within.in_block in
        block_does P names env w f' l ps (block_is env b)
        (walk_lines ps ps names true i None h so.1 ow.1
        (block_stays names w f' l ps r)
        (stands_block P f asked vars arrs names env st) (block_sound asked env role w f' l ls b s)
        (subst Ending (block_behind env w f' l ls b) e))
    walk (node forms.SimpleNode w f' l none) names env role h so ow r st s e = idle_does P names env w f' l
    walk (node forms.SimpleNode w f' l (more a none)) names env role h so ow r st s e =
        whole_does P f asked vars arrs locals names env role w f' l a h (expression_sourced a h so.1.0) r st s e
    walk (node forms.IfNode w f' l (more c (more a none))) names env role h so ow r st s e =
        let n = kinds.behind names c in
        let i = apart env in
        let c' = scalarised (marked names c) in
        let a' = scalarised (marked n a) in
        let hc = whole names c st.small h.0 in
        let ps = if_stays names w f' l (more c (more a none)) r in
        let x = if_sound asked env role w f' l c' a' hc s in
        let sn = stands_behind names i c h.0 (stands_apart P f asked vars arrs names env st) in
        if_does P names env w f' l c a h.0 (expression_leaves i c' hc)
        (walk a n i roles.Other h.1 so.1.1.0 ow.1.1.0 ps.1.0 sn x.1 (subst Ending (if_behind env w f' l c' a' hc) e))
    walk (node forms.IfNode w f' l (more c (more a (more b none)))) names env role h so ow r st s e =
        let n = kinds.behind names c in
        let m = kinds.behind n a in
        let i = apart env in
        let c' = scalarised (marked names c) in
        let a' = scalarised (marked n a) in
        let b' = scalarised (marked m b) in
        let hc = whole names c st.small h.0 in
        let ps = if_stays names w f' l (more c (more a (more b none))) r in
        let x = else_sound asked env role w f' l c' a' b' hc s in
        let sn = stands_behind names i c h.0 (stands_apart P f asked vars arrs names env st) in
        let ha = statement_is a n (marked_small a n sn.small) h.1 in
        let ka = leaves i roles.Other a' n ha x.1 sn in
        let sl = stands_later P f asked vars arrs n i (behind i a') ka sn in
        let sm = stands_names P f asked vars arrs n m (behind i a') (statement_names n a h.1) sl in
        let hb = statement_is b m (marked_small b m sm.small) h.2 in
        let kb = leaves (behind i a') roles.Other b' m hb x.2 sm in
        let e2 = subst Ending (else_behind env w f' l c' a' b' hc) e in
        let e1 = ends_before P f asked vars arrs (behind i a') (behind (behind i a') b') kb.grown e2 in
        else_does P names env w f' l c a b h.0 h.1 (expression_leaves i c' hc)
        (walk a n i roles.Other h.1 so.1.1.0 ow.1.1.0 ps.1.0 sn x.1 e1)
        (walk b m (behind i a') roles.Other h.2 so.1.1.1.0 ow.1.1.1.0 ps.1.1.0 sm x.2 e2)
    walk (node forms.WhileNode w f' l (more c (more a none))) names env role h so ow r st s e =
        let n = kinds.behind names c in
        let i = in_loop env in
        let c' = scalarised (marked names c) in
        let a' = scalarised (marked n a) in
        let hc = whole names c st.small h.0 in
        let ps = while_stays names w f' l (more c (more a none)) r in
        let x = while_sound asked env role w f' l c' a' hc s in
        let sn = stands_behind names i c h.0 (stands_loop P f asked vars arrs names env st) in
        while_does P names env w f' l c a h.0 (expression_leaves i c' hc)
        (walk a n i roles.Other h.1 so.1.1.0 ow.1.1.0 ps.1.0 sn x.1
        (subst Ending (while_behind env w f' l c' a' hc) e))
    walk (node forms.DoNode w f' l (more a (more c none))) names env role h so ow r st s e =
        let n = kinds.behind names a in
        let i = in_loop env in
        let a' = scalarised (marked names a) in
        let c' = scalarised (marked n c) in
        let ps = do_stays names w f' l (more a (more c none)) r in
        let x = do_sound asked env role w f' l a' c' s in
        let si = stands_loop P f asked vars arrs names env st in
        let sn = stands_names P f asked vars arrs names n i (statement_names names a h.0) si in
        let hc = whole n c sn.small h.1 in
        do_does P names env w f' l a c h.1 (walk a names i roles.Other h.0 so.1.0 ow.1.0 ps.0 si x.0
        (subst Ending (do_behind env w f' l a' c' hc) e))
    walk (node forms.ForNode w f' l (more d (more a none))) names env role h so ow r st s e =
        let n = kinds.behind names d in
        let i = opened (in_loop env) in
        let d' = first_of_for P names d in
        let a' = scalarised (marked n a) in
        let ps = for_stays names w f' l d (more a none) r in
        let x = for_sound asked env role w f' l d' a' s in
        let e2 = subst Ending (for_behind env w f' l d' a') e in
        let sn = behind_first d a names n i roles.Other (for_role d' a') h.0 h.1 ow.1.0 ps.0
        (behind_small names d st.small) (stands_for P f asked vars arrs names env st) x.0 x.1 e2 in
        for_does P names env w f' l d a
        (walk a n (behind i d') (for_role d' a') h.1 so.1.1.0 ow.1.1.0 ps.1.0 sn x.1 e2)
    walk (node forms.ForNode w f' l (more d (more c (more a none)))) names env role h so ow r st s e =
        let n = kinds.behind names d in
        let m = kinds.behind n c in
        let i = opened (in_loop env) in
        let d' = first_of_for P names d in
        let c' = scalarised (marked n c) in
        let a' = scalarised (marked m a) in
        let x0 = behind i d' in
        let ps = for_stays names w f' l d (more c (more a none)) r in
        let small = behind_small names d st.small in
        let hc = whole n c small h.1 in
        let x = for1_sound asked env role w f' l d' c' a' hc s in
        let e2 = subst Ending (for1_behind env w f' l d' c' a' hc) e in
        let sn = behind_first d a names m i roles.Other (for_role c' a') h.0 h.2 ow.1.0 ps.0
        (behind_small n c small) (stands_for P f asked vars arrs names env st) x.0 x.2 e2 in
        for1_does P names env w f' l d c a h.1 (expression_leaves x0 c' hc)
        (walk a m x0 (for_role c' a') h.2 so.1.1.1.0 ow.1.1.1.0 ps.1.1.0 (stands_behind n x0 c h.1 sn) x.2 e2)
    walk (node forms.ForNode w f' l (more d (more c (more u (more a none))))) names env role h so ow r st s e =
        let n = kinds.behind names d in
        let m = kinds.behind n c in
        let o = kinds.behind m u in
        let i = opened (in_loop env) in
        let d' = first_of_for P names d in
        let c' = scalarised (marked n c) in
        let u' = scalarised (marked m u) in
        let a' = scalarised (marked o a) in
        let x0 = behind i d' in
        let ps = for_stays names w f' l d (more c (more u (more a none))) r in
        let small = behind_small names d st.small in
        let hc = whole n c small h.1 in
        let hu = whole m u (behind_small n c small) h.2 in
        let x = for2_sound asked env role w f' l d' c' u' a' hc hu s in
        let e2 = subst Ending (for2_behind env w f' l d' c' u' a' hc hu) e in
        let sn = behind_first d a names o i roles.Other (for_role u' a') h.0 h.3 ow.1.0 ps.0
        (behind_small m u (behind_small n c small)) (stands_for P f asked vars arrs names env st) x.0 x.3 e2 in
        let sm = stands_behind n x0 c h.1 sn in
        for2_does P names env w f' l d c u a h.1 h.2 (expression_leaves x0 c' hc) (expression_leaves x0 u' hu)
        (walk a o x0 (for_role u' a') h.3 so.1.1.1.1.0 ow.1.1.1.1.0 ps.1.1.1.0 (stands_behind m x0 u h.2 sm) x.3 e2)
    walk (node forms.SwitchNode w f' l (more v ss)) names env role h so ow r st s e =
        let n = kinds.behind names v in
        let i = in_switch env in
        let v' = scalarised (marked names v) in
        let ss' = all_scalarised (marked_parts forms.SwitchNode (more v ss) n false ss) in
        let ps = switch_stays names w f' l (more v ss) r in
        let hv = whole names v st.small h.0 in
        let x = switch_sound asked env role w f' l v' ss' hv s in
        let si = stands_behind names i v h.0 (stands_switch P f asked vars arrs names env st) in
        switch_does P names env w f' l v ss h.0 (expression_leaves i v' hv)
        (walk_arms ss (more v ss) n (at_labels env v') (last_of v') h.1 so.1.1 ow.1.1 ps.1
        (stands_labels P f asked vars arrs n i (at_labels env v').labels si) x.1
        (subst Ending (switch_behind env w f' l v' ss' hv) e))
    walk (node forms.CaseNode w f' l (more v (more a none))) names env role h so ow r st s e =
        let n = kinds.behind names v in
        let v' = scalarised (marked names v) in
        let a' = scalarised (marked n a) in
        let ps = case_stays names w f' l (more v (more a none)) r in
        let hv = whole names v st.small h.0 in
        let x = case_sound asked env role w f' l v' a' hv s in
        let sn = stands_behind names env v h.0 st in
        case_does P names env w f' l v a h.0 (expression_leaves env v' hv)
        (walk a n (case_env env v') roles.Other h.1 so.1.1.0 ow.1.1.0 ps.1.0
        (stands_labels P f asked vars arrs n env (case_env env v').labels sn) x.1
        (subst Ending (case_behind env w f' l v' a' hv) e))
    walk (node forms.DefaultNode w f' l (more a none)) names env role h so ow r st s e =
        let a' = scalarised (marked names a) in
        let ps = default_stays names w f' l (more a none) r in
        let x = default_sound asked env role w f' l a' s in
        default_does P names env w f' l a
        (walk a names (default_env env) roles.Other h so.1.0 ow.1.0 ps.0
        (stands_labels P f asked vars arrs names env (default_env env).labels st) x
        (subst Ending (default_behind env w f' l a') e))
    walk (node forms.BreakNode w f' l ps) names env role h so ow r st s e = break_does P names env w f' l ps
    walk (node forms.ContinueNode w f' l ps) names env role h so ow r st s e = continue_does P names env w f' l ps
    walk (node forms.ReturnNode w f' l ps) names env role h so ow r st s e = return_does P names env w f' l ps
    walk t names env role h so ow r st s e = absurd h

    walk_arms : (ps all : Forest) (names : Names) (env : Env) (b : ℕ) → AreStatementsOf true ps → HaveWords ps →
        AllOwn ps → AllStay (marked_parts forms.SwitchNode all names false ps) → There names env →
        SoundParts asked env forms.SwitchNode (Some b)
        (all_scalarised (marked_parts forms.SwitchNode all names false ps)) →
        Ending (behind_parts env forms.SwitchNode false
        (all_scalarised (marked_parts forms.SwitchNode all names false ps))) →
        PartsDoes P forms.SwitchNode (marked_parts forms.SwitchNode all names false ps) false env
    walk_arms none all names env b h so ow r st s e = no_arm_does P env
    walk_arms (more p ps) all names env b h so ow r st s e =
        let n = kinds.behind names p in
        let p' = scalarised (marked names p) in
        let ps' = all_scalarised (marked_parts forms.SwitchNode all n false ps) in
        let x = on_sound asked env b p' ps' s in
        let m = behind env p' in
        let o = on_labels env p' in
        let hp = statement_is p names (marked_small p names st.small) h.0 in
        let kp = leaves env roles.Other p' names hp x.0 st in
        let kv = value_kept m m.labels (kind_of env p') in
        let sp = stands_names P f asked vars arrs names n m (statement_names names p h.0)
        (stands_later P f asked vars arrs names env m kp st) in
        let so' = stands_later P f asked vars arrs n m o kv sp in
        let hs = statements_are forms.SwitchNode all n false ps
        (small_parts forms.SwitchNode all n false ps so'.small) h.1 in
        let ks = of_statements asked StatementGrows LinesGrow SwitchGrows (growing asked) o [] (last_of p') ps' hs x.1
        so'.here.within false in
        let e2 = subst Ending (on_behind env false p' ps') e in
        let e1 = ends_before P f asked vars arrs o (behind_parts o forms.SwitchNode false ps') ks.grown e2 in
        let e0 = ends_before P f asked vars arrs m o kv.grown e1 in
        arm_does P all names env p ps (walk p names env roles.Other h.0 so.0 ow.0 r.0 st x.0 e0)
        (walk_arms ps all n o (last_of p') h.1 so.1 ow.1 r.1 so' x.1 e2)

    pub walk_lines : (ps all : Forest) (names : Names) (front : Bool) (env : Env) (b : Before) → AreLinesOf true ps →
        HaveWords ps → AllOwn ps → AllStay (marked_parts forms.BlockNode all names front ps) → There names env →
        SoundParts asked env forms.BlockNode b (block_lines (marked_parts forms.BlockNode all names front ps)) →
        Ending (behind_parts env forms.BlockNode front
        (block_lines (marked_parts forms.BlockNode all names front ps))) →
        PartsDoes P forms.BlockNode (marked_parts forms.BlockNode all names front ps) front env
    walk_lines none all names front env b h so ow r st s e = no_line_does P front env
    walk_lines (more p ps) all names front env b (inl h, hs) so ow r st s e =
        let n = kinds.behind names p in
        let m = marked names p in
        let ls = declaration_lines m in
        let ps' = block_lines (marked_parts forms.BlockNode all n false ps) in
        let z = declaration_declares names p h in
        let s' = subst (λ x. SoundParts asked env forms.BlockNode b
        (joined (if x then ls else forest1 (scalarised m)) ps')) z s in
        let e' = subst (λ x. Ending (behind_parts env forms.BlockNode front
        (joined (if x then ls else forest1 (scalarised m)) ps'))) z e in
        let hd = declaration_lines_are p names (marked_small p names st.small) h in
        let fs = front_sound asked ls ps' env b s' in
        let x = rest_sound asked ls ps' env b front s' in
        let mid = behind_parts env forms.BlockNode front ls in
        let small = behind_small names p st.small in
        let hl = lines_is forms.BlockNode all n false ps (small_parts forms.BlockNode all n false ps small) hs in
        let g1 = lines_grow P f asked vars arrs fin ls env b front hd fs st.here.within in
        let g2 = lines_grow P f asked vars arrs fin ps' mid x.0 false hl x.1 (within_later env mid st.here.within g1) in
        let e2 = subst Ending (joined_behind env front ls ps') e' in
        let e1 = ends_before P f asked vars arrs mid (behind_parts mid forms.BlockNode false ps') g2 e2 in
        let y = declaration_does P f asked vars arrs fin locals names env front b p ps' h so.0 ow.0 r.0 st s' e1 in
        declared_does P front all names env p ps h y.does
        (walk_lines ps all n false mid x.0 hs so.1 ow.1 r.1 y.stands x.1 e2)
    walk_lines (more p ps) all names front env b (inr h, hs) so ow r st s e =
        let n = kinds.behind names p in
        let m = marked names p in
        let p' = scalarised m in
        let ps' = block_lines (marked_parts forms.BlockNode all n false ps) in
        let z = statement_declares_not names p h in
        let s' = subst (λ x. SoundParts asked env forms.BlockNode b
        (joined (if x then declaration_lines m else forest1 p') ps')) z s in
        let e' = subst (λ x. Ending (behind_parts env forms.BlockNode front
        (joined (if x then declaration_lines m else forest1 p') ps'))) z e in
        let x = line_sound asked env b p' ps' s' in
        let mid = behind env p' in
        let hp = statement_is p names (marked_small p names st.small) h in
        let kp = leaves env roles.Other p' names hp x.0 st in
        let sn = stands_names P f asked vars arrs names n mid (statement_names names p h)
        (stands_later P f asked vars arrs names env mid kp st) in
        let hl = lines_is forms.BlockNode all n false ps (small_parts forms.BlockNode all n false ps sn.small) hs in
        let gs = of_lines asked StatementGrows LinesGrow SwitchGrows (growing asked) mid [] (Some (last_of p')) ps' hl
        x.1 sn.here.within false in
        let e2 = subst Ending (line_behind env front p' ps') e' in
        let e1 = ends_before P f asked vars arrs mid (behind_parts mid forms.BlockNode false ps') gs e2 in
        line_does P front all names env p ps h (walk p names env roles.Other h so.0 ow.0 r.0 st x.0 e1)
        (walk_lines ps all n false mid (Some (last_of p')) hs so.1 ow.1 r.1 sn x.1 e2)
