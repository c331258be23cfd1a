-- The lines that set components of a variable and store those of an element stand for their steps.
use Rattle.std.proofs.Common.{◌≡◌, ℕ, suc, ◌+◌, ◌≤◌, ◌<◌, pos, List, [], ◌∷◌, ◌++◌, length, Some, None, Bool}
use Rattle.std.proofs.Common.{false, refl, ap, sym, ◌∙◌, subst, arith}
use Rattle.wg_num.specs.declared.types.IntType.{IntType}
use Rattle.wg_num.specs.declared.types.IntType.TheVariants as types
use Rattle.wg_num.specs.declared.types.Bin.TheVariants as bins
use Rattle.wg_num.specs.declared.types.Place.{Place}
use Rattle.cl_model.specs.Tree as tree
use Rattle.cl_model.specs.Tree.{Apply, empty, also}
use Rattle.cl_model.specs.Lists.{Each}
use Rattle.cl_tree.specs.declared.tree.Form.TheVariants as forms
use Rattle.cl_tree.specs.Syntax.{Syntax, Forest, none, more}
use Rattle.cl_meaning.specs.declared.kind.Meaning.TheVariants as meanings
use Rattle.cl_meaning.specs.Environment.{Env, meaning_of, place_of}
use Rattle.cl_meaning.specs.Expressions.{read}
use Rattle.cl_meaning.specs.Visible.{behind}
use Rattle.cl_meaning.specs.Typed.{statement}
use Rattle.cl_meaning.specs.Statements.{followed, all_lines, lines_of as lines_in}
use Rattle.cl_meaning.specs.Meant.{meant, parts_meant}
use Rattle.cl_check_sound.proofs.Parts.{line_meant}
use Rattle.cl_short_vec.specs.Marks.{Mark, tree_at, kind_at}
use Rattle.cl_short_vec.specs.Nodes.{span_of, component_name}
use Rattle.cl_short_vec.specs.Order.{Named, stores, sets, type_in}
use Rattle.cl_short_vec.specs.Parts.{Assigned, assigned_part}
use Rattle.cl_short_vec.specs.Unit.{set_line, store_line, lines_of}
use Rattle.cl_short_vec_correct.proofs.Worths.{set_worth}
use Rattle.cl_short_vec_correct.specs.Doing.{Got, first_at}
use Rattle.cl_short_vec_correct.specs.Emits as emits
use Rattle.cl_short_vec_correct.specs.Emits.{Known, Fresh, Emits}
use Rattle.cl_short_vec.proofs.OwnNames.{HasNoBlank}
use Rattle.cl_short_vec_correct.proofs.Pieces.{index_of}
use Rattle.cl_short_vec_correct.proofs.Lines.{set_behind, set_is, store_behind, store_is}
use Rattle.cl_short_vec_correct.proofs.Trees.{Typed}
use Rattle.cl_short_vec_correct.proofs.Running.{Pointed}

-- a statement that leaves what is visible, in front of others
statement_front : (env : Env) (sites : List Place) (p : Syntax) (ps : Forest) (s : tree.Statement) →
    behind env p ≡ env → (meant env sites p).piece.what ≡ statement s →
    all_lines (parts_meant env forms.BlockNode false sites (more p ps)).pieces ≡
    also s (all_lines (parts_meant env forms.BlockNode false (meant env sites p).sites ps).pieces)
statement_front env sites p ps s b h =
    ap (λ z. all_lines z.pieces) (line_meant env false sites p ps) ∙
    (ap (λ z. followed (lines_in (meant env sites p).piece.what)
    (all_lines (parts_meant z forms.BlockNode false (meant env sites p).sites ps).pieces)) b ∙
    ap (λ z. followed (lines_in z)
    (all_lines (parts_meant env forms.BlockNode false (meant env sites p).sites ps).pieces)) h)

pub no_lines : (env : Env) (sites : List Place) →
    all_lines (parts_meant env forms.BlockNode false sites none).pieces ≡ empty
unfolding parts_meant
no_lines env sites = refl

-- the component that is set is a variable of that type, here and behind the statement
pub record SetFits (env later : Env) (known : List Known) (x : Named) (of : IntType) (c : ℕ) : Type 0 where
  pub constant : Bool
  pub variable : ℕ
  pub visible : meaning_of env (component_name x.name c) ≡ Some (meanings.Scalar of constant variable)
  pub behind' : meaning_of later (component_name x.name c) ≡ Some (meanings.Scalar of constant variable)
  pub fresh : Fresh variable known

module _ (start later : Env) (helps : ℕ → Type 0) (a : Assigned) where
  abbrev pub Values : Env → List Known → Got → IntType → (first count : ℕ) → Type 0
  Values env known got of first count = (j : ℕ) → first ≤ j → j < first + count →
      Typed env known (assigned_part a j) of (set_worth a got.leaves j)

  module _ (env : Env) (known : List Known) (got : Got) (flags : env.flags ≡ false) where
    pub sets_run : (x : Named) (of : IntType) (cs : List ℕ) (j : ℕ) (sites : List Place) → HasNoBlank x.name →
        Each (SetFits env later known x of) cs → Values env known got of j (length cs) →
        Emits start later helps (set_worth a) known got (sets x cs j)
        (all_lines (parts_meant env forms.BlockNode false sites (lines_of None a (sets x cs j))).pieces)
    sets_run x of [] j sites n f v = subst (λ z. Emits start later helps (set_worth a) known got [] z)
        (sym (no_lines env sites)) (emits.end known got)
    sets_run x of (c ∷ cs) j sites n f v =
        let t = v j (omega arith) (omega arith) in
        let p = set_line None x c (assigned_part a j) in
        let ps = lines_of None a (sets x cs (suc j)) in
        let h = f.0 in
        let value = read (meant env sites (assigned_part a j)).piece.what in
        subst (λ z. Emits start later helps (set_worth a) known got (sets x (c ∷ cs) j) z)
        (sym (statement_front env sites p ps (tree.Do (Apply (tree.Set h.variable) (tree.single value)))
        (set_behind env x c (assigned_part a j) t.leaves)
        (set_is env x c (assigned_part a j) of h.constant h.variable sites flags n (t.leaves, (t.reached, t.kind))
        h.visible)))
        (emits.set_line known got (sets x cs (suc j))
        (all_lines (parts_meant env forms.BlockNode false (meant env sites p).sites ps).pieces) x c j h.variable of
        value (h.constant, h.behind') (t.worth sites) h.fresh
        (sets_run x of cs (suc j) (meant env sites p).sites n f.1 (λ i l m. v i (omega arith) (omega arith))))

    pub stores_run : (m : Mark) (cs : List ℕ) (j : ℕ) (sites : List Place) → Pointed start env known got m →
        Each (λ c. c ≤ 16) cs → Values env known got (type_in (kind_at m)) j (length cs) →
        Emits start later helps (set_worth a) known got (stores m cs j)
        (all_lines (parts_meant env forms.BlockNode false sites (lines_of None a (stores m cs j))).pieces)
    stores_run m [] j sites q f v = subst (λ z. Emits start later helps (set_worth a) known got [] z)
        (sym (no_lines env sites)) (emits.end known got)
    stores_run m (c ∷ cs) j sites q f v =
        let t = v j (omega arith) (omega arith) in
        let of = type_in (kind_at m) in
        let p = store_line m c (assigned_part a j) in
        let ps = lines_of None a (stores m cs (suc j)) in
        let after = sites ++ place_of env (span_of (tree_at m)).first ∷ [] in
        let value = read (meant env after (assigned_part a j)).piece.what in
        let y = q.held.variable in
        subst (λ z. Emits start later helps (set_worth a) known got (stores m (c ∷ cs) j) z)
        (sym (statement_front env sites p ps
        (tree.Do (Apply (tree.Store (length sites) of q.root) (tree.pair (index_of y c) value)))
        (store_behind env m c (assigned_part a j) t.leaves)
        (store_is env m c (assigned_part a j) q.space of q.constant false q.root y sites flags f.0
        (t.leaves, (t.reached, t.kind)) q.held.visible)))
        (emits.store_line known got (stores m cs (suc j))
        (all_lines (parts_meant env forms.BlockNode false (meant env sites p).sites ps).pieces) m c j (length sites)
        q.root q.place (index_of y c) value q.element
        (emits.binary bins.Add types.Long (Apply (tree.Variable y) tree.none)
        (Apply (tree.Literal (pos c) types.Long) tree.none) (got.offsets (first_at m)) (pos c)
        (emits.variable y (got.offsets (first_at m)) q.held.holds) (emits.literal (pos c) types.Long))
        (t.worth after)
        (stores_run m cs (suc j) (meant env sites p).sites q f.1 (λ i l k. v i (omega arith) (omega arith))))
