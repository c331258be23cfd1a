-- An assignment to a vector, as a block of lines, is at fault at no node where its plain form is not.
use Rattle.std.proofs.Common.{◌≡◌, ℕ, ◌+◌, ◌≤◌, ◌<◌, ◌^◌, Bool, true, false, not, ◌&&◌, List, [], ◌∷◌, ◌++◌, map}
use Rattle.std.proofs.Common.{length}
use Rattle.std.proofs.Common.{Option, Some, None, if◌then◌else◌, refl, ap, sym, ◌∙◌, subst, inl, inr, arith}
use Rattle.std.proofs.lemmas.Bool.{false≢true}
use Rattle.std.specs.Prelude.{codes}
use Rattle.wg_num.specs.declared.types.Bin.{Bin}
use Rattle.cl_model.specs.Lists.{Each, AllDiffer}
use Rattle.cl_tree.specs.declared.tree.Form.TheVariants as forms
use Rattle.cl_tree.specs.Syntax.{Syntax, node, Forest, none, more, first_of, last_of}
use Rattle.cl_tree.specs.Nodes.{forest2}
use Rattle.cl_meaning.specs.Spelling.{name_in, setting_in}
use Rattle.cl_meaning.specs.declared.fault.Fault.{Fault}
use Rattle.cl_meaning.specs.declared.fault.Fault.TheVariants as faults
use Rattle.cl_meaning.specs.declared.kind.Reach.TheVariants as reach
use Rattle.cl_meaning.specs.declared.kind.Kind.TheVariants as kinds
use Rattle.cl_meaning.specs.declared.kind.Role.{Role}
use Rattle.cl_meaning.specs.declared.kind.Role.TheVariants as roles
use Rattle.cl_meaning.specs.Environment.{Env, empty_scope}
use Rattle.cl_meaning.specs.Kinds.{is_some, is_constant_memory, kind_step}
use Rattle.cl_meaning.specs.Visible.{inside, before_labels}
use Rattle.cl_meaning.specs.Faults.{Asked, unassignable, at_fault, looked_at, misfits, is_tested}
use Rattle.cl_check_sound.specs.Shape.{IsExpressionOf}
use Rattle.cl_check_sound.specs.Sound.{SoundTree, SoundParts}
use Rattle.cl_check_sound.proofs.Grown.{each_append}
use Rattle.cl_short_vec.specs.declared.nodes.Span.{Span}
use Rattle.cl_short_vec.specs.declared.kinds.Reach.TheVariants.{Variable, Element}
use Rattle.cl_short_vec.specs.declared.kinds.Kind.TheVariants.{Vectors}
use Rattle.cl_short_vec.specs.declared.roles.Role.TheVariants.{Free, Used, Target, Whole}
use Rattle.cl_short_vec.specs.Kinds.{Names, behind, is_vector}
use Rattle.cl_short_vec.specs.Marks.{Mark, unmarked, marking, tree_at, kind_at, kind_by, marked, marked_parts}
use Rattle.cl_short_vec.specs.Roles.{is_place, role_of}
use Rattle.cl_short_vec.specs.Faults.{components_of, types_differ, right_fits, refusals}
use Rattle.cl_short_vec.specs.Nodes.{span_of, component_name, helper, variable_at}
use Rattle.cl_short_vec.specs.Order.{Named, Offset, type_in, count_in, named_by}
use Rattle.cl_short_vec.specs.Order.{steps_of, under, is_element_in, target_steps, operator_in, old_steps, stores, sets}
use Rattle.cl_short_vec.specs.Order.{new_steps, setting_steps}
use Rattle.cl_short_vec.specs.Parts.{Assigned, assigned_part}
use Rattle.cl_short_vec.specs.Scalar.{component_at}
use Rattle.cl_short_vec.specs.Unit.{lines_of, assigned_of, set_block, helped_element}
use Rattle.cl_short_vec.proofs.Small.{mark_small, marked_small}
use Rattle.cl_short_vec_faults.specs.PlainForm.{plain_of, plains_of}
use Rattle.cl_short_vec_faults.specs.Plainly.{NoPoint, Plainly}
use Rattle.cl_short_vec_faults.specs.Law.{KindAs, Called}
use Rattle.cl_short_vec_faults.specs.Parts.{StandsForPointer, HelpedBy}
use Rattle.cl_short_vec_faults.specs.Lines.{IsNumberLeaf, InOrder, InBlock, StatementFollows, SettingsFollow}
use Rattle.cl_short_vec_faults.proofs.LineKeeps.{step_name}
use Rattle.cl_short_vec_faults.proofs.Building.{Good}
use Rattle.cl_short_vec_faults.proofs.Known.{not_false}
use Rattle.cl_short_vec_faults.proofs.Nodes.{two_kinds}
use Rattle.cl_short_vec_faults.proofs.Refused.{kind_placed, expression_names}
use Rattle.cl_short_vec_faults.proofs.PlainForms.{plain_made}
use Rattle.cl_short_vec_faults.proofs.Places.{AllUnder}
use Rattle.cl_short_vec_faults.proofs.Operands.{small_names}
use Rattle.cl_short_vec_faults.proofs.Claims.{plain_here, plain_fine}
use Rattle.cl_short_vec_faults.proofs.Kinded.{some_same}
use Rattle.cl_short_vec_faults.proofs.Placing.{Placed}
use Rattle.cl_short_vec_faults.proofs.Expressions.{placed}
use Rattle.cl_short_vec_faults.proofs.PartNodes.{GoodNumber}
use Rattle.cl_short_vec_faults.proofs.PartCalls.{calls_known}
use Rattle.cl_short_vec_faults.proofs.PartShown.{each_split}
use Rattle.cl_short_vec_faults.proofs.PartFits.{node_fits, has_wide}
use Rattle.cl_short_vec_faults.proofs.PartTrees.{Shown, shown}
use Rattle.cl_short_vec_faults.proofs.LineSeen.{called_alike, alike_opened, tree_alike, alone_alike}
use Rattle.cl_short_vec_faults.proofs.LineLeaves.{helped_good}
use Rattle.cl_short_vec_faults.proofs.LineOrders.{append_apart, setting_leaves, setting_apart, setting_ordered}
use Rattle.cl_short_vec_faults.proofs.LineSteps.{LinesSound, behind_lines, lines_parts, lines_append, behind_append}
use Rattle.cl_short_vec_faults.proofs.LineSteps.{AllFresh, DoneAt}
use Rattle.cl_short_vec_faults.proofs.LineSteps.{each_done, each_helped, LeafFits, Stage, Leaves, leaves_sound}
use Rattle.cl_short_vec_faults.proofs.LineFits.{two_none}
use Rattle.cl_short_vec_faults.proofs.LineFitTrees.{small_count, fits_in}
use Rattle.cl_short_vec_faults.proofs.LineTargets.{VariableTarget, ElementTarget, target_is}
use Rattle.cl_short_vec_faults.proofs.LineTargets.{Target as IsTarget}
use Rattle.cl_short_vec_faults.proofs.LineBlocks.{own_block, block_is, inner_block, fresh_block, plainly_block}
use Rattle.cl_short_vec_faults.proofs.LineBlocks.{block_behind, block_scopes, plainly_behind}
use Rattle.cl_short_vec_faults.proofs.LineSets.{each_alike, element_kind, variable_kind, target_fits, old_fits}
use Rattle.cl_short_vec_faults.proofs.LineSets.{right_wide, assigned_number, sets_sound, stores_sound}
use Rattle.cl_short_vec_faults.proofs.LineKinds.{known_kind}
use Rattle.cl_short_vec_faults.proofs.LineNames.{ranged_append}
use Rattle.cl_short_vec_faults.proofs.LineTokens.{marked_in_order, tree_marked, first_last, names_append, steps_ranged}
use Rattle.cl_short_vec_faults.proofs.LineTokens.{under_range, target_ranged, target_differs}

-- ---- names

append_nothing : (xs : List (List ℕ)) → xs ++ [] ≡ xs
append_nothing [] = refl
append_nothing (x ∷ xs) = ap (λ z. x ∷ z) (append_nothing xs)

all_small : (n : ℕ) (cs : List ℕ) → n ≤ 16 → AllUnder n cs → Each (λ c. c < 2 ^ 64) cs
all_small n [] h u = tt
all_small n (c ∷ cs) h u = (let x = u.0 in omega (arith, h, x), all_small n cs h u.1)

all_fresh : (env : Env) (qs : List (List ℕ)) → AllFresh (own_block env) qs
all_fresh env [] = tt
all_fresh env (q ∷ qs) = (fresh_block env q, all_fresh env qs)

-- what holds for each number below another holds for some of them
each_under : (P : ℕ → Type 0) (n : ℕ) (cs : List ℕ) → AllUnder n cs → ((c : ℕ) → c < n → P c) → Each P cs
each_under P n [] h g = tt
each_under P n (c ∷ cs) h g = (g c h.0, each_under P n cs h.1 g)

-- ---- the block

tested_no : (b : Bool) → (b && false) ≡ false
tested_no true = refl
tested_no false = refl

block_sound : (asked : Asked) (env : Env) (place : Role) (w : List ℕ) (f l : ℕ) (parts : Forest) →
    env.in_body ≡ false → LinesSound asked (own_block env) parts →
    SoundTree asked env place (node forms.BlockNode w f l parts)
unfolding inside misfits kind_step
block_sound asked env place w f l parts b h = (
  subst (λ z. SoundParts asked z forms.BlockNode None parts) (sym (block_is env b))
      (lines_parts asked (own_block env) None parts h),
  (by, tt),
)
  where
    by : (k : Fault) → at_fault asked (looked_at env place (node forms.BlockNode w f l parts)) k ≡ false
    by faults.OperandTypes = tested_no (is_tested place)
    by _ = refl

-- ---- an assignment

module _ (asked : Asked) (names : Names) (plain form : Env) (h : InBlock asked names plain form) (w : List ℕ) (f l : ℕ)
    (a b : Syntax) (sa : is_some (setting_in w) ≡ true) (ha : IsExpressionOf true a) (hb : IsExpressionOf true b)
    (na : NoPoint a) (nb : NoPoint b) (ra : refusals Target (marked names a) ≡ [])
    (rb : refusals Used (marked names b) ≡ []) (v : is_vector (kind_at (marked names a)) ≡ true)
    (so : SoundTree asked plain roles.Whole (node forms.AssignNode w f l (forest2 (plain_of a) (plain_of b)))) where
  abbrev m : Mark
  m = marked names a

  abbrev n : Mark
  n = marked names b

  abbrev o : Option Bin
  o = operator_in (setting_in w)

  abbrev cs : List ℕ
  cs = components_of m

  parts_here : SoundTree asked plain roles.Other (plain_of a) × SoundTree asked plain roles.Other (plain_of b)
  parts_here = let here = plain_here asked plain roles.Whole forms.AssignNode w f l (forest2 (plain_of a) (plain_of b))
      refl refl (inl (plain_made a ha), (inl (plain_made b hb), tt)) so in (here.0, here.1.0)

  is_target_place : is_place (kind_at m) ≡ true
  is_target_place = by (is_vector (kind_at m)) v (kind_placed Target a names ha ra)
    where
      by : (c : Bool) → c ≡ true → (c && not (is_place (kind_at m))) ≡ false → is_place (kind_at m) ≡ true
      by true e g = not_false (is_place (kind_at m)) g
      by false e g = absurd (false≢true e)

  target : IsTarget asked names plain m
  target = target_is asked names plain form h.alike a ha na Target ra is_target_place parts_here.0

  there : Placed asked plain form m (plain_of a)
  there = placed asked plain form names Target roles.Other a ha na h.alike (h.give, h.alone) ra is_target_place parts_here.0

  small : count_in (kind_at (under m)) ≤ 16
  small = by target
    where
      by : IsTarget asked names plain m → count_in (kind_at (under m)) ≤ 16
      by (inl x) = subst (λ z. count_in (kind_at z) ≤ 16) (sym x.under')
          (small_count (names (name_in x.word)) (small_names names plain form h.alike (name_in x.word)))
      by (inr x) = let t = x.fits.leaf.tree in subst (λ z. count_in (kind_at z) ≤ 16) (sym x.fits.leaf.marks)
          (small_count (kind_at (marked names t))
          (mark_small (marked names t) (marked_small t names (small_names names plain form h.alike))))

  -- ---- what the plain form says of the target

  target_free : (unassignable there.kind ≡ false) × (is_constant_memory there.kind ≡ false)
  target_free =
      let y = known_kind asked b plain roles.Other hb h.give parts_here.1 in
      let P = forest2 (plain_of a) (plain_of b) in
      let g = plain_fine asked plain roles.Whole forms.AssignNode w f l P refl refl
      (inl (plain_made a ha), (inl (plain_made b hb), tt)) so (Some there.kind ∷ Some y.0 ∷ [])
      (two_kinds plain (plain_of a) (plain_of b) (Some there.kind) (Some y.0) there.plain y.1) in
      (g.assignable, g.written)

  -- ---- leaves

  leaves_fit : Each (IsNumberLeaf plain) (steps_of (type_in (kind_at m)) n) →
      Each (LeafFits asked names plain) (setting_leaves o m n)
  leaves_fit e =
      each_append (LeafFits asked names plain) (target_steps (under m))
      (old_steps o (under m) cs ++ steps_of (type_in (kind_at m)) n) (target_fits asked names plain m target)
      (each_append (LeafFits asked names plain) (old_steps o (under m) cs) (steps_of (type_in (kind_at m)) n)
      (old_fits asked names plain m target small o cs there.below)
      ((fits_in asked names plain form h.alike h.give h.alone h.unflagged b hb nb parts_here.1).steps false
      (type_in (kind_at m)) Used refl rb e))

  abbrev there' : Env
  there' = own_block plain

  abbrev here' : Env
  here' = own_block form

  give' : Called asked there'
  give' = called_alike asked plain there' (alike_opened plain) (h.give, h.alone)

  first_stage : Stage asked names there' give' h.nameless here' []
  first_stage = record {
    alike = plainly_block names plain form h.alike;
    inner = inner_block form h.inner;
    all = tt;
  }

  abbrev what : Assigned
  what = assigned_of o m n

  -- their names differ
  module _ (oa : InOrder a) (ob : InOrder b) (next : last_of a < first_of b) (end : last_of b < 2 ^ 64) where
    names_differ : AllDiffer (map step_name (setting_leaves o m n))
    names_differ =
        let ma = marked_in_order a names oa in
        let mb = marked_in_order b names ob in
        let ta = tree_marked a names in
        let tb = tree_marked b names in
        let u = under_range m ma in
        let first = first_of (tree_at m) in
        let last = last_of (tree_at m) in
        let front = target_ranged (under m) cs first last u.0 u.1
        (all_small (count_in (kind_at (under m))) cs small there.below)
        (target_differs a names ha ra is_target_place) o in
        let e : last_of (tree_at n) < 2 ^ 64 = subst (λ z. last_of z < 2 ^ 64) (sym tb) end in
        let k : last < first_of (tree_at n) =
        subst (λ z. last_of z < first_of (tree_at n)) (sym ta) (subst (λ z. last_of a < first_of z) (sym tb) next) in
        let value = steps_ranged n false (type_in (kind_at m)) mb
        (marked_small b names (small_names names plain form h.alike)) e in
        let xs = target_steps (under m) ++ old_steps o (under m) cs in
        let ys = steps_of (type_in (kind_at m)) n in
        let x = first_last m ma in
        let y = first_last n mb in
        subst (λ z. AllDiffer (map step_name z))
        (sym (append_apart (target_steps (under m)) (old_steps o (under m) cs) ys))
        (subst AllDiffer (sym (names_append xs ys)) (ranged_append first last (first_of (tree_at n))
        (last_of (tree_at n)) (map step_name xs) (map step_name ys) (omega (arith, x, k)) k (omega (arith, k, y)) e
        front
        value).1)

  leaf_lines : Each (IsNumberLeaf plain) (steps_of (type_in (kind_at m)) n) →
      AllDiffer (map step_name (setting_leaves o m n)) →
      Leaves asked names there' give' h.nameless here' None what (setting_leaves o m n) [] []
  leaf_lines e d =
      let ss = setting_leaves o m n in
      let fits = leaves_fit e in
      leaves_sound asked names there' give' h.nameless here' None what ss [] [] first_stage
      (each_alike asked names plain there' (alike_opened plain) ss fits) (setting_ordered o m n)
      (all_fresh form (map step_name ss ++ [])) (subst AllDiffer (sym (append_nothing (map step_name ss))) d)

  -- ---- what is set

  module _ (fit : right_fits (setting_in w) (kind_at m) (kind_at n) ≡ true) (env : Env)
      (alike : Plainly names there' env) (done : Each (HelpedBy env) (setting_leaves o m n)) where
    helped_apart : Each (HelpedBy env) (target_steps (under m)) × Each (HelpedBy env) (old_steps o (under m) cs) ×
        Each (HelpedBy env) (steps_of (type_in (kind_at m)) n)
    helped_apart =
        let x = each_split (HelpedBy env) (target_steps (under m))
        (old_steps o (under m) cs ++ steps_of (type_in (kind_at m)) n) done in
        let y = each_split (HelpedBy env) (old_steps o (under m) cs) (steps_of (type_in (kind_at m)) n) x.1 in
        (x.0, y.0, y.1)

    value_shown : Shown asked env n
    value_shown =
        let sound = (tree_alike asked plain there' roles.Other (plain_of b) (plain_made b hb) (alike_opened plain)
        parts_here.1).0 in
        let calls = calls_known asked names there' env alike (alone_alike plain there' (alike_opened plain) h.alone) b
        there' hb nb (λ q. refl) sound in
        shown asked env b names env hb calls (λ q. refl) (Used, rb)

    values : (j : ℕ) → 0 ≤ j → j < 0 + length cs → GoodNumber asked env (assigned_part what j)
    values j d e =
        let less : j < length cs = omega (arith, e) in
        let wide = right_wide (setting_in w) (kind_at m) (kind_at n) fit v in
        let within : j < count_in (kind_at m) = subst (λ z. j < z) there.many less in
        assigned_number asked env m n o (type_in (kind_at m)) cs j helped_apart.1 less
        (value_shown.operand (type_in (kind_at m)) helped_apart.2 j
        (λ u. has_wide (count_in (kind_at m)) j (kind_at n) wide within u))

    placed_here : Placed asked there' env m (plain_of a)
    placed_here = placed asked there' env names Target roles.Other a ha na alike give' ra is_target_place
        (tree_alike asked plain there' roles.Other (plain_of a) (plain_made a ha) (alike_opened plain) parts_here.0).0

    same_kind : placed_here.kind ≡ there.kind
    same_kind = some_same placed_here.kind there.kind (sym placed_here.plain ∙
        (tree_alike asked plain there' roles.Other (plain_of a) (plain_made a ha) (alike_opened plain) parts_here.0).1 ∙
        there.plain)

    abbrev x : Named
    x = named_by (tree_at (under m))

    -- components of a variable
    variable_lines : VariableTarget names m → LinesSound asked env (lines_of None what (sets x cs 0)) ×
        (behind_lines env (lines_of None what (sets x cs 0)) ≡ env)
    variable_lines t =
        let k : KindAs (Vectors t.whole Variable) (Some there.kind) =
        subst (λ z. KindAs z (Some there.kind)) t.kind there.as' in
        let kind = kinds.Number t.whole.of (reach.Variable k.0) in
        let same : there.kind ≡ kind = some_same there.kind kind k.1 in
        let free = subst (λ z. unassignable z ≡ false) same target_free.0 in
        let unwritten = subst (λ z. is_constant_memory z ≡ false) same target_free.1 in
        sets_sound asked env what t.whole.of (reach.Variable k.0) free unwritten x cs 0
        (each_under (λ c. Good asked env roles.Other (variable_at (component_name x.name c) x.span) kind)
        (count_in (kind_at (under m))) cs there.below (λ c b. subst (λ z. Good asked env roles.Other z kind)
        (t.at c x.span ∙ ap (λ z. variable_at (component_name (named_by (tree_at z)).name c) x.span) (sym t.under'))
        (subst (λ z. Good asked env roles.Other (component_at c x.span m) z) (same_kind ∙ same)
        (placed_here.component c x.span roles.Other b)))) values

    -- components of an element
    element_lines : ElementTarget asked names plain m →
        LinesSound asked env (lines_of None what (stores (under m) cs 0)) ×
        (behind_lines env (lines_of None what (stores (under m) cs 0)) ≡ env)
    element_lines t =
        let u = element_kind asked names plain m t in
        let k : KindAs (Vectors t.whole (Element t.fits.space t.fits.constant)) (Some there.kind) =
        subst (λ z. KindAs z (Some there.kind)) t.kind there.as' in
        let same : there.kind ≡ kinds.Number t.whole.of (reach.Element t.fits.space t.fits.constant k.0) =
        some_same there.kind (kinds.Number t.whole.of (reach.Element t.fits.space t.fits.constant k.0)) k.1 in
        let free = subst (λ z. unassignable z ≡ false) same target_free.0 in
        let unwritten = subst (λ z. is_constant_memory z ≡ false) same target_free.1 in
        let s = span_of (tree_at (under m)) in
        let pointer : StandsForPointer (Vectors t.fits.vector (Element t.fits.space t.fits.constant)) env (helper s) =
        subst (λ z. StandsForPointer z env (helper s)) u (offset (ap is_element_in u)) in
        let p = reach.Element t.fits.space t.fits.constant pointer.0 in
        stores_sound asked env what t.fits.vector.of p free unwritten (under m) cs 0
        (each_under (λ c. Good asked env roles.Other (helped_element s c) (kinds.Number t.fits.vector.of p))
        (count_in (kind_at (under m))) cs there.below (λ c b. helped_good asked env s c t.fits.vector t.fits.space
        t.fits.constant (omega (arith, b, small)) pointer)) values
      where
        offset : is_element_in (kind_at (under m)) ≡ true → HelpedBy env (Offset (under m))
        offset e = by (is_element_in (kind_at (under m))) e helped_apart.0
          where
            by : (c : Bool) → c ≡ true → Each (HelpedBy env) (if c then Offset (under m) ∷ [] else []) →
                HelpedBy env (Offset (under m))
            by true e g = g.0
            by false e g = absurd (false≢true e)

    new_lines : LinesSound asked env (lines_of None what (new_steps (under m) cs)) ×
        (behind_lines env (lines_of None what (new_steps (under m) cs)) ≡ env)
    new_lines = by target (is_element_in (kind_at (under m))) refl
      where
        by : IsTarget asked names plain m → (c : Bool) → is_element_in (kind_at (under m)) ≡ c →
            LinesSound asked env (lines_of None what (if c then stores (under m) cs 0 else sets x cs 0)) ×
            (behind_lines env (lines_of None what (if c then stores (under m) cs 0 else sets x cs 0)) ≡ env)
        by (inl t) false e = variable_lines t
        by (inl t) true e = absurd (false≢true (sym (ap is_element_in (variable_kind asked names plain m t)) ∙ e))
        by (inr t) true e = element_lines t
        by (inr t) false e = absurd (false≢true (sym e ∙ ap is_element_in (element_kind asked names plain m t)))

  pub setting_sound : right_fits (setting_in w) (kind_at m) (kind_at n) ≡ true → (place : Role) (s : Span) →
      Each (IsNumberLeaf plain) (setting_steps o m n) → InOrder a → InOrder b → last_of a < first_of b →
      last_of b < 2 ^ 64 → StatementFollows asked names plain form place (set_block s o m n)
  setting_sound fit place s e oa ob next end =
      let x = each_split (IsNumberLeaf plain) (target_steps (under m))
      (old_steps o (under m) cs ++ (steps_of (type_in (kind_at m)) n ++ new_steps (under m) cs)) e in
      let y = each_split (IsNumberLeaf plain) (old_steps o (under m) cs)
      (steps_of (type_in (kind_at m)) n ++ new_steps (under m) cs) x.1 in
      let z = each_split (IsNumberLeaf plain) (steps_of (type_in (kind_at m)) n) (new_steps (under m) cs) y.1 in
      let leaves = leaf_lines z.0 (names_differ oa ob next end) in
      let ss = setting_leaves o m n in
      let env = behind_lines here' (lines_of None what ss) in
      let done = (each_done (DoneAt env) ss [] leaves.stage.all).0 in
      let new = new_lines fit env leaves.stage.alike (each_helped env ss done) in
      let lines = lines_of None what (setting_steps o m n) in
      let inside : form.in_body ≡ false = h.alike.in_body ∙ h.inside in
      let at : behind_lines here' lines ≡ env = ap (λ z. behind_lines here' (lines_of None what z)) (setting_apart o m
      n) ∙
      behind_append here' None what ss (new_steps (under m) cs) ∙ new.1 in
      let y = leaves.outer form.scopes empty_scope refl in
      let all = block_behind form (codes "{ }") s.first s.last lines inside ∙ ap (before_labels form) at in record {
        sound = block_sound asked form place (codes "{ }") s.first s.last lines inside
            (subst (λ q. LinesSound asked here' (lines_of None what q)) (sym (setting_apart o m n))
            (lines_append asked here' None what ss (new_steps (under m) cs) leaves.sound new.0));
        plainly = subst (Plainly names plain) (sym all)
            (plainly_behind names plain form env y.0 y.1 h.alike leaves.stage.alike);
        scopes = ap (λ (z : Env). z.scopes) all ∙ block_scopes form env y.0 y.1;
      }

-- ---- the law

pub settings_follow : SettingsFollow
unfolding marked marked_parts plain_of plains_of types_differ role_of
settings_follow asked names plain form place s w f l a b h n i r v so order end e =
    let t = node forms.AssignNode w f l (more a (more b none)) in
    let m = marked names a in
    let ms = marking m (marking (marked (behind names a) b) unmarked) in
    let k = kind_by names forms.AssignNode w ms in
    let q = expression_names names a h.1 in
    let x = two_none Whole t k m (marked (behind names a) b) r in
    let y = node_fits Whole t k ms r in
    let ra = subst (λ z. refusals (if z then Target else Free) m ≡ []) v x.0 in
    let rb = subst (λ z. refusals (if z then Used else Free) (marked (behind names a) b) ≡ []) v x.1 in
    let fit = not_false (right_fits (setting_in w) (kind_at m) (kind_at (marked (behind names a) b)))
    (subst (λ z. (z && not (right_fits (setting_in w) (kind_at m) (kind_at (marked (behind names a) b)))) ≡ false) v
    y.2)
    in
    let o = operator_in (setting_in w) in
    subst (λ z. StatementFollows asked names plain form place (set_block s o m (marked z b))) (sym q)
    (setting_sound asked names plain form i w f l a b h.0 h.1 h.2 n.1.0 n.1.1.0 ra
    (subst (λ z. refusals Used (marked z b) ≡ []) q rb) v so
    (subst (λ z. right_fits (setting_in w) (kind_at m) (kind_at (marked z b)) ≡ true) q fit) place s
    (subst (λ z. Each (IsNumberLeaf plain) (setting_steps o m (marked z b))) q e) order.1.2 order.1.3.2 order.1.3.0
    (let p = order.1.3.1 in omega (arith, p, end)))
