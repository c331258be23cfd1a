-- An expression of which no condition on vectors is told, and which has nothing to do with them itself, stays: a
-- selection in it is one component of a variable or an element.
use Rattle.std.proofs.Common.{◌≡◌, ℕ, suc, nat_eq, length, List, [], ◌∷◌, Option, None, Some, Bool, true, false}
use Rattle.std.proofs.Common.{if◌then◌else◌, refl, ap, sym, ◌∙◌, inl, inr, subst, arith, ◌&&◌}
use Rattle.std.proofs.lemmas.Bool.{false≢true}
use Rattle.std.proofs.lemmas.Bool.Decides.{nat_tests}
use Rattle.cl_tree.specs.declared.tree.Form.{Form}
use Rattle.cl_tree.specs.declared.tree.Form.TheVariants as forms
use Rattle.cl_tree.specs.Syntax.{Syntax, node, Forest, none, more}
use Rattle.cl_tree.specs.Nodes.{forest1, forest3}
use Rattle.cl_meaning.specs.Spelling.{prefix_in, postfix_in}
use Rattle.cl_meaning.specs.Declarations.{form_of, word_of}
use Rattle.cl_meaning.specs.Kinds.{is_some}
use Rattle.cl_meaning.specs.declared.operators.Prefix.{Prefix}
use Rattle.cl_meaning.specs.declared.operators.Prefix.TheVariants as prefixes
use Rattle.cl_meaning.specs.declared.operators.Postfix.{Postfix}
use Rattle.cl_check_sound.specs.Shape.{IsExpressionOf, AreExpressionsOf, IsType, PrefixOf, indexes}
use Rattle.cl_short_vec.specs.declared.nodes.Span.{Span}
use Rattle.cl_short_vec.specs.declared.kinds.Kind.{Kind}
use Rattle.cl_short_vec.specs.declared.kinds.Kind.TheVariants.{Other}
use Rattle.cl_short_vec.specs.Nodes.{span_of}
use Rattle.cl_short_vec.specs.declared.roles.Role.{Role}
use Rattle.cl_short_vec.specs.declared.roles.Role.TheVariants.{Free, Used, Target, Typed, Listed, Base}
use Rattle.cl_short_vec.specs.Types.{picked, selection_in}
use Rattle.cl_short_vec.specs.Kinds.{Names, within, is_vector, later, prefix_kind, postfix_kind}
use Rattle.cl_short_vec.specs.Marks.{Mark, mark, unmarked, marking, kind_at, kind_by, marked, marked_parts}
use Rattle.cl_short_vec.specs.Marks.{front_type}
use Rattle.cl_short_vec.specs.Roles.{used_in, is_place, is_element, role_of, paren_role, selected_role, operand_role}
use Rattle.cl_short_vec.specs.Roles.{back_form}
use Rattle.cl_short_vec.specs.Roles.{is_paren, element_by}
use Rattle.cl_short_vec.specs.Faults.{refusals, components_of, picked_by, selected_in, chosen}
use Rattle.cl_short_vec.specs.Order.{is_through}
use Rattle.cl_short_vec.specs.Scalar.{one_by, two_by, one_selected, one_component, chosen_or, alone_in, scalar, scalars}
use Rattle.cl_short_vec.specs.Scalar.{component_at, content_component, element_component}
use Rattle.cl_short_vec_faults.specs.Law.{is_of_vectors}
use Rattle.cl_short_vec_faults.proofs.Refused.{apart, parts_stay, part_none, free_apart, used_free, inner_apart}
use Rattle.cl_short_vec_faults.proofs.Refused.{paren_inner, item_free}
use Rattle.cl_short_vec_faults.proofs.Refused as refused
use Rattle.cl_short_vec_faults.proofs.PlainForms.{postfix_unpointed, unpointed_selection, selection_some}
use Rattle.cl_short_vec_faults.proofs.Places.{place_form, content_place, index_place, selected_place, picked_many}
use Rattle.cl_short_vec_faults.proofs.Selected.{Selected, selected_part}
use Rattle.cl_short_vec_faults.proofs.Operands.{element_is_place, cast_other}
use Rattle.cl_short_vec_faults.specs.Kept.{ContentOf, ElementOf, Stays, AllStay}
use Rattle.cl_short_vec_faults.specs.Kept.{ComponentStays}
use Rattle.cl_short_vec_faults.proofs.KeptCounted.{is_selecting, OneKept, one_kept, two_kept, two_stays, node_stays}

-- ---- types

pub type_stays : (t : Syntax) (names : Names) → IsType t → Stays (marked names t) (scalar (marked names t))
unfolding marked marked_parts scalar
type_stays (node forms.TypeNode w f l none) names h = inl (refl, (none, refl, tt))
type_stays (node forms.TypeNode w f l (more (node forms.SpaceNode w' f' l' none) none)) names h =
    inl (refl, (forest1 (node forms.SpaceNode w' f' l' none), refl, (inl (refl, (none, refl, tt)), tt)))
type_stays t names h = absurd h

-- ---- one node

-- a node of one part that is no selection
one_stays : (t : Syntax) (k : Kind) (a : Mark) (p u : Syntax) → one_component (mark t k (marking a unmarked)) ≡ None →
    is_selecting (form_of t) (word_of t) ≡ false → OneKept (form_of t) (kind_at a) t p u → Stays a p →
    Stays (mark t k (marking a unmarked)) u
one_stays t k a p u e n (inl h) x = inl (e, (forest1 p, h, (x, tt)))
one_stays t k a p u e n (inr h) x = absurd (false≢true (sym n ∙ h.0))

indexes_some : (o : Option Postfix) → indexes o ≡ true → is_some o ≡ true
indexes_some None h = absurd (false≢true h)
indexes_some (Some q) h = refl

longer : (n : ℕ) → nat_eq (suc (suc n)) 1 ≡ true → ⊥
longer n h = let same : suc (suc n) ≡ 1 = grind (arith, nat_tests) in omega arith

alone_there : (cs : List ℕ) → nat_eq (length cs) 1 ≡ true → (c : ℕ) × (alone_in cs ≡ Some c)
alone_there [] h = absurd (false≢true h)
alone_there (c ∷ []) h = (c, refl)
alone_there (c ∷ (d ∷ ds)) h = absurd (longer (length ds) h)

-- a selection of one component selects one
component_some : (names : Names) (w : List ℕ) (f l : ℕ) (a : Syntax) (k : Kind) → Selected names w a →
    (c : ℕ) × (one_component (mark (node forms.PostfixNode w f l (more a none)) k (marking (marked names a) unmarked)) ≡
    Some c)
unfolding components_of
component_some names w f l a k x =
    let ks = components_of (marked names a) in
    let j = kind_at (marked names a) in
    let c = alone_there (picked ks x.picks) (ap (λ n. nat_eq n 1) (picked_many ks x.picks) ∙ x.one) in (
      c.0,
      ap (λ o. one_selected forms.PostfixNode o (picked_by o k j ks)) x.selects' ∙
          ap (λ z. alone_in (chosen (selected_in z x.name) ks)) x.front ∙
          ap (λ o. alone_in (chosen o ks)) x.selected' ∙ c.1,
    )

-- a node of which that component is selected
selection_stays : (t : Syntax) (k : Kind) (a : Mark) (g : ℕ → Syntax) (u : Syntax) (c : ℕ) →
    one_component (mark t k (marking a unmarked)) ≡ Some c → ComponentStays c (span_of t) a (g c) →
    Stays (mark t k (marking a unmarked)) (chosen_or (one_component (mark t k (marking a unmarked))) g u)
selection_stays t k a g u c e h =
    subst (λ o. Stays (mark t k (marking a unmarked)) (chosen_or o g u)) (sym e) (inr (c, e, h))

-- a node of which none is selected
whole_stays : (t : Syntax) (k : Kind) (a : Mark) (g : ℕ → Syntax) (u : Syntax) →
    one_component (mark t k (marking a unmarked)) ≡ None → Stays (mark t k (marking a unmarked)) u →
    Stays (mark t k (marking a unmarked)) (chosen_or (one_component (mark t k (marking a unmarked))) g u)
whole_stays t k a g u e h =
    subst (λ o. Stays (mark t k (marking a unmarked)) (chosen_or o g u)) (sym e) h

-- ---- places

content_stays : (o : Option Prefix) (j : Kind) (c : ℕ) (s : Span) (w : List ℕ) (f l : ℕ) (ps : Forest) (p : Syntax) →
    is_place (prefix_kind o j) ≡ true → ContentOf forms.UnaryNode o j c s (node forms.UnaryNode w f l ps) p
    (content_component forms.UnaryNode o j c s (node forms.UnaryNode w f l ps) p)
content_stays o j c s w f l ps p h =
    let x = content_place o j h in
    let b = x.1 in
    let t = node forms.UnaryNode w f l ps in
    subst (λ z. ContentOf forms.UnaryNode z j c s t p (content_component forms.UnaryNode z j c s t p)) (sym x.0)
    (subst (λ z. ContentOf forms.UnaryNode (Some prefixes.Content) z c s t p
    (content_component forms.UnaryNode (Some prefixes.Content) z c s t p)) (sym b.pointer) refl)

index_stays : (o : Option Postfix) (j : Kind) (c : ℕ) (s : Span) (w : List ℕ) (f l : ℕ) (ps : Forest) (a b : Syntax) →
    is_place (postfix_kind None o j) ≡ true →
    ElementOf forms.PostfixNode j c s (node forms.PostfixNode w f l ps) a b
    (element_component forms.PostfixNode j c s (node forms.PostfixNode w f l ps) a b)
index_stays o j c s w f l ps a b h =
    let t = node forms.PostfixNode w f l ps in
    subst (λ z. ElementOf forms.PostfixNode z c s t a b (element_component forms.PostfixNode z c s t a b))
    (sym (index_place o j h).1.pointer) refl

-- each component of a place stays, and a place that is an element itself
record PlaceStays (m : Mark) : Type 0 where
  component : (c : ℕ) (s : Span) → ComponentStays c s m (component_at c s m)
  element : is_element m ≡ true → Stays m (scalar m)

through_stays : (c : ℕ) (s : Span) (t : Syntax) (k : Kind) (a : Mark) (u v : Syntax) → is_through t ≡ true →
    ComponentStays c s a u → ComponentStays c s (mark t k (marking a unmarked)) (if is_through t then u
    else v)
through_stays c s t k a u v e h =
    subst (λ b. ComponentStays c s (mark t k (marking a unmarked)) (if b then u else v)) (sym e) (inl (e, h))

-- the operand of a prefix, where those are what is known of it at either role
operand_stays : (names : Names) (a : Syntax) (o : Option Prefix) → PrefixOf o a (IsExpressionOf true a) →
    refusals (operand_role o (prefix_kind o (kind_at (marked names a))) (marked names a)) (marked names a) ≡ [] →
    is_vector (prefix_kind o (kind_at (marked names a))) ≡ false →
    (IsExpressionOf true a → refusals Free (marked names a) ≡ [] →
    Stays (marked names a) (scalar (marked names a))) →
    (IsExpressionOf true a → refusals Used (marked names a) ≡ [] → is_element (marked names a) ≡ true →
    Stays (marked names a) (scalar (marked names a))) → Stays (marked names a) (scalar (marked names a))
operand_stays names a None h r v x y = absurd h
operand_stays names a (Some prefixes.Size) h r v x y = type_stays a names h
operand_stays names a (Some (prefixes.Operator op)) h r v x y = x h (subst (λ z. refusals z (marked names a) ≡ [])
    (used_free (prefix_kind (Some (prefixes.Operator op)) (kind_at (marked names a))) v) r)
operand_stays names a (Some prefixes.Content) h r v x y = x h r
operand_stays names a (Some prefixes.Address) h r v x y = by (is_element (marked names a)) refl r
  where
    by : (b : Bool) → is_element (marked names a) ≡ b → refusals (if b then Used else Free) (marked names a) ≡ [] →
        Stays (marked names a) (scalar (marked names a))
    by true e q = y h q e
    by false e q = x h q
operand_stays names a (Some (prefixes.Step op)) h r v x y = x h r

-- a node of two operands, which stand where a vector may if it is one
operator_stays : (form : Form) (names : Names) (role : Role) (w : List ℕ) (f l : ℕ) (a b : Syntax) →
    let t = node form w f l (more a (more b none)) in
    let m = marked (within form w names) a in
    let m' = marked (later form (more a (more b none)) (within form w names) true a) b in
    let k = kind_at (marked names t) in
    let ms = marking m (marking m' unmarked) in one_component (mark t k ms) ≡ None →
    ((x y : Bool) (p : Mark) → role_of role (mark t k ms) x y p ≡ used_in k) → IsExpressionOf true a →
    IsExpressionOf true b → refusals role (marked names t) ≡ [] → is_of_vectors role (marked names t) ≡ false →
    (refusals Free m ≡ [] → is_of_vectors Free m ≡ false → Stays m (scalar m)) →
    (refusals Free m' ≡ [] → is_of_vectors Free m' ≡ false → Stays m' (scalar m')) →
    Stays (marked names t) (scalar (marked names t))
unfolding scalar marked marked_parts
operator_stays form names role w f l a b one used ha hb r v x y =
    let t = node form w f l (more a (more b none)) in
    let inner = within form w names in
    let names' = later form (more a (more b none)) inner true a in
    let m = marked inner a in
    let m' = marked names' b in
    let k = kind_at (marked names t) in
    let ms = marking m (marking m' unmarked) in
    let d = apart role t k ms v in
    let stay = parts_stay role t k ms (λ i j p. used i j p ∙ used_free k d.0) r in
    two_stays t k m m' (scalar m) (scalar m') (two_by form (kind_at m) (kind_at m') t (scalar m) (scalar m')) one
    (two_kept form (kind_at m) (kind_at m') t (scalar m) (scalar m')) (x stay.0 (free_apart a inner ha stay.0))
    (y stay.1.0 (free_apart b names' hb stay.1.0))

mutual
  unfolding scalar scalars component_at marked marked_parts kind_by role_of is_element

  pub expression_stays : (names : Names) (role : Role) (t : Syntax) → IsExpressionOf true t →
      refusals role (marked names t) ≡ [] → is_of_vectors role (marked names t) ≡ false →
      Stays (marked names t) (scalar (marked names t))
  expression_stays names role (node forms.NumberNode w f l none) h r v = inl (refl, (none, refl, tt))
  expression_stays names role (node forms.TruthNode w f l none) h r v = inl (refl, (none, refl, tt))
  expression_stays names role (node forms.VariableNode w f l none) h r v = inl (refl, (none, refl, tt))
  expression_stays names role (node forms.ParenNode w f l (more a none)) h r v =
      let t = node forms.ParenNode w f l (more a none) in
      let m = marked names a in
      let d = apart role t (kind_at m) (marking m unmarked) v in
      let q = paren_role role (kind_at m) in
      inl (
        refl,
        (
          forest1 (scalar m),
          refl,
          (
            expression_stays names q a h (part_none role t (kind_at m) m r)
                (inner_apart q m (paren_inner role (kind_at m) d.1) d.0),
            tt,
          ),
        ),
      )
  expression_stays names role (node forms.ExprNode w f l (more a (more b none))) h r v =
      let t = node forms.ExprNode w f l (more a (more b none)) in
      let names' = later forms.ExprNode (more a (more b none)) names true a in
      let m = marked names a in
      let m' = marked names' b in
      let k = kind_at (marked names t) in
      let ms = marking m (marking m' unmarked) in
      let d = apart role t k ms v in
      let stay = parts_stay role t k ms (λ x y q. item_free role x d.1) r in
      two_stays t k m m' (scalar m) (scalar m') (two_by forms.ExprNode (kind_at m) (kind_at m') t (scalar m)
      (scalar m')) refl
      (two_kept forms.ExprNode (kind_at m) (kind_at m') t (scalar m) (scalar m'))
      (expression_stays names Free a h.0 stay.0 (free_apart a names h.0 stay.0))
      (expression_stays names' Free b h.1 stay.1.0 (free_apart b names' h.1 stay.1.0))
  expression_stays names role (node forms.AssignNode w f l (more a (more b none))) h r v =
      let t = node forms.AssignNode w f l (more a (more b none)) in
      let names' = later forms.AssignNode (more a (more b none)) names true a in
      let m = marked names a in
      let m' = marked names' b in
      let k = kind_at (marked names t) in
      let ms = marking m (marking m' unmarked) in
      let d = apart role t k ms v in
      let stay = parts_stay role t k ms (λ x y q. ap (λ z. if z then (if x then Target else Used) else Free) d.2) r in
      two_stays t k m m' (scalar m) (scalar m') (two_by forms.AssignNode (kind_at m) (kind_at m') t (scalar m)
      (scalar m')) refl
      (two_kept forms.AssignNode (kind_at m) (kind_at m') t (scalar m) (scalar m'))
      (expression_stays names Free a h.1 stay.0 (free_apart a names h.1 stay.0))
      (expression_stays names' Free b h.2 stay.1.0 (free_apart b names' h.2 stay.1.0))
  expression_stays names role (node forms.OrNode w f l (more a (more b none))) h r v =
      operator_stays forms.OrNode names role w f l a b refl (λ x y q. refl) h.0 h.1 r v
      (λ s e. expression_stays names Free a h.0 s e)
      (λ s e. expression_stays (later forms.OrNode (more a (more b none)) names true a) Free b h.1 s e)
  expression_stays names role (node forms.AndNode w f l (more a (more b none))) h r v =
      operator_stays forms.AndNode names role w f l a b refl (λ x y q. refl) h.0 h.1 r v
      (λ s e. expression_stays names Free a h.0 s e)
      (λ s e. expression_stays (later forms.AndNode (more a (more b none)) names true a) Free b h.1 s e)
  expression_stays names role (node forms.BorNode w f l (more a (more b none))) h r v =
      operator_stays forms.BorNode names role w f l a b refl (λ x y q. refl) h.1 h.2 r v
      (λ s e. expression_stays names Free a h.1 s e)
      (λ s e. expression_stays (later forms.BorNode (more a (more b none)) names true a) Free b h.2 s e)
  expression_stays names role (node forms.BxorNode w f l (more a (more b none))) h r v =
      operator_stays forms.BxorNode names role w f l a b refl (λ x y q. refl) h.1 h.2 r v
      (λ s e. expression_stays names Free a h.1 s e)
      (λ s e. expression_stays (later forms.BxorNode (more a (more b none)) names true a) Free b h.2 s e)
  expression_stays names role (node forms.BandNode w f l (more a (more b none))) h r v =
      operator_stays forms.BandNode names role w f l a b refl (λ x y q. refl) h.1 h.2 r v
      (λ s e. expression_stays names Free a h.1 s e)
      (λ s e. expression_stays (later forms.BandNode (more a (more b none)) names true a) Free b h.2 s e)
  expression_stays names role (node forms.EqualNode w f l (more a (more b none))) h r v =
      operator_stays forms.EqualNode names role w f l a b refl (λ x y q. refl) h.1 h.2 r v
      (λ s e. expression_stays names Free a h.1 s e)
      (λ s e. expression_stays (later forms.EqualNode (more a (more b none)) names true a) Free b h.2 s e)
  expression_stays names role (node forms.OrderNode w f l (more a (more b none))) h r v =
      operator_stays forms.OrderNode names role w f l a b refl (λ x y q. refl) h.1 h.2 r v
      (λ s e. expression_stays names Free a h.1 s e)
      (λ s e. expression_stays (later forms.OrderNode (more a (more b none)) names true a) Free b h.2 s e)
  expression_stays names role (node forms.ShiftNode w f l (more a (more b none))) h r v =
      operator_stays forms.ShiftNode names role w f l a b refl (λ x y q. refl) h.1 h.2 r v
      (λ s e. expression_stays names Free a h.1 s e)
      (λ s e. expression_stays (later forms.ShiftNode (more a (more b none)) names true a) Free b h.2 s e)
  expression_stays names role (node forms.TermNode w f l (more a (more b none))) h r v =
      operator_stays forms.TermNode names role w f l a b refl (λ x y q. refl) h.1 h.2 r v
      (λ s e. expression_stays names Free a h.1 s e)
      (λ s e. expression_stays (later forms.TermNode (more a (more b none)) names true a) Free b h.2 s e)
  expression_stays names role (node forms.SumNode w f l (more a (more b none))) h r v =
      operator_stays forms.SumNode names role w f l a b refl (λ x y q. refl) h.1 h.2 r v
      (λ s e. expression_stays names Free a h.1 s e)
      (λ s e. expression_stays (later forms.SumNode (more a (more b none)) names true a) Free b h.2 s e)
  expression_stays names role (node forms.PostfixNode w f l (more a (more b none))) h r v =
      let t = node forms.PostfixNode w f l (more a (more b none)) in
      let names' = later forms.PostfixNode (more a (more b none)) names true a in
      let m = marked names a in
      let m' = marked names' b in
      let k = kind_at (marked names t) in
      let ms = marking m (marking m' unmarked) in
      let o = unpointed_selection w (postfix_unpointed w (indexes_some (postfix_in w) h.0)) in
      let d = apart role t k ms v in
      let stay = parts_stay role t k ms (λ x y q. ap (λ z. selected_role z k) o) r in
      two_stays t k m m' (scalar m) (scalar m') (two_by forms.PostfixNode (kind_at m) (kind_at m') t (scalar m)
      (scalar m'))
      (ap (λ z. one_selected forms.PostfixNode z (components_of (mark t k ms))) o) (two_kept forms.PostfixNode
      (kind_at m) (kind_at m') t (scalar m) (scalar m'))
      (expression_stays names Free a h.1 stay.0 (free_apart a names h.1 stay.0))
      (expression_stays names' Free b h.2 stay.1.0 (free_apart b names' h.2 stay.1.0))
  expression_stays names role (node forms.CondNode w f l (more c (more a (more b none)))) h r v =
      let ps = more c (more a (more b none)) in
      let t = node forms.CondNode w f l ps in
      let names' = later forms.CondNode ps names true c in
      let names'' = later forms.CondNode ps names' false a in
      let i = marked names c in
      let m = marked names' a in
      let m' = marked names'' b in
      let ms = marking i (marking m (marking m' unmarked)) in
      let stay = parts_stay role t (Other true) ms (λ x y q. refl) r in
      inl (
        refl,
        (
          forest3 (scalar i) (scalar m) (scalar m'),
          refl,
          (
            expression_stays names Free c h.0 stay.0 (free_apart c names h.0 stay.0),
            (
              expression_stays names' Free a h.1 stay.1.0 (free_apart a names' h.1 stay.1.0),
              (expression_stays names'' Free b h.2 stay.1.1.0 (free_apart b names'' h.2 stay.1.1.0), tt),
            ),
          ),
        ),
      )
  expression_stays names role (node forms.CastNode w f l (more c (more a none))) h r v =
      let ps = more c (more a none) in
      let t = node forms.CastNode w f l ps in
      let names' = later forms.CastNode ps names true c in
      let i = marked names c in
      let m = marked names' a in
      let ms = marking i (marking m unmarked) in
      let k = kind_at (marked names t) in
      let d = apart role t k ms v in
      let nothing = cast_other (front_type ms) d.0 in
      let stay = parts_stay role t k ms (λ x y q. ap (λ o. if is_some o && is_paren (back_form ms) then
      (if x then Typed else Listed) else Free) nothing) r in
      two_stays t k i m (scalar i) (scalar m) (two_by forms.CastNode (kind_at i) (kind_at m) t (scalar i)
      (scalar m)) refl
      (two_kept forms.CastNode (kind_at i) (kind_at m) t (scalar i) (scalar m)) (type_stays c names h.0)
      (expression_stays names' Free a h.1 stay.1.0 (free_apart a names' h.1 stay.1.0))
  expression_stays names role (node forms.UnaryNode w f l (more a none)) h r v =
      let t = node forms.UnaryNode w f l (more a none) in
      let m = marked names a in
      let k = kind_at (marked names t) in
      let d = apart role t k (marking m unmarked) v in
      one_stays t k m (scalar m) (one_by forms.UnaryNode (kind_at m) t (scalar m)) refl refl
      (one_kept forms.UnaryNode (kind_at m) t (scalar m))
      (operand_stays names a (prefix_in w) h (part_none role t k m r) d.0
      (λ ha q. expression_stays names Free a ha q (free_apart a names ha q))
      (λ ha q e. (place_stays names Used a ha q (element_is_place a names e)).element e))
  expression_stays names role (node forms.PostfixNode w f l (more a none)) (inl h) r v =
      let t = node forms.PostfixNode w f l (more a none) in
      let m = marked names a in
      let k = kind_at (marked names t) in
      let s : Span = record { first = f; last = l } in
      let b = postfix_unpointed w h.0 in
      let o = unpointed_selection w b in
      let free : refusals Free m ≡ [] = subst (λ z. refusals z m ≡ []) (ap (λ z. selected_role z k) o)
      (part_none role t k m r) in
      whole_stays t k m (λ c. component_at c s m) (one_by forms.PostfixNode (kind_at m) t (scalar m))
      (ap (λ z. one_selected forms.PostfixNode z (components_of (mark t k (marking m unmarked)))) o)
      (one_stays t k m (scalar m) (one_by forms.PostfixNode (kind_at m) t (scalar m))
      (ap (λ z. one_selected forms.PostfixNode z (components_of (mark t k (marking m unmarked)))) o) b
      (one_kept forms.PostfixNode (kind_at m) t (scalar m))
      (expression_stays names Free a h.2 free (free_apart a names h.2 free)))
  expression_stays names role (node forms.PostfixNode w f l (more a none)) (inr h) r v =
      let t = node forms.PostfixNode w f l (more a none) in
      let m = marked names a in
      let k = kind_at (marked names t) in
      let s : Span = record { first = f; last = l } in
      let d = apart role t k (marking m unmarked) v in
      let x = selected_part names role w f l a h.0 h.1 r d.0 in
      let c = component_some names w f l a k x in
      selection_stays t k m (λ c. component_at c s m) (one_by forms.PostfixNode (kind_at m) t (scalar m)) c.0 c.1
      ((place_stays names Base a h.1 x.none' x.place).component c.0 s)
  expression_stays names role (node forms.CallNode w f l parts) h r v =
      let t = node forms.CallNode w f l parts in
      let inner = within forms.CallNode w names in
      let ms = marked_parts forms.CallNode parts inner true parts in
      let k = kind_at (marked names t) in
      let d = apart role t k ms v in
      let stay = parts_stay role t k ms (λ x y q. used_free k d.0) r in
      node_stays forms.CallNode w f l parts k ms refl (arguments_stay parts inner true parts h stay)
  expression_stays names role t h r v = absurd h

  arguments_stay : (all : Forest) (names : Names) (front : Bool) (ps : Forest) → AreExpressionsOf true ps →
      refused.AllStay (marked_parts forms.CallNode all names front ps) →
      AllStay (marked_parts forms.CallNode all names front ps)
      (scalars (marked_parts forms.CallNode all names front ps))
  arguments_stay all names front none h st = tt
  arguments_stay all names front (more a as') h st =
      let names' = later forms.CallNode all names front a in (
        expression_stays names Free a h.0 st.0 (free_apart a names h.0 st.0),
        arguments_stay all names' false as' h.1 st.1,
      )

  place_stays : (names : Names) (role : Role) (t : Syntax) → IsExpressionOf true t →
      refusals role (marked names t) ≡ [] → is_place (kind_at (marked names t)) ≡ true → PlaceStays (marked names t)
  place_stays names role (node forms.VariableNode w f l none) h r e = record {
    component = λ c s. refl;
    element = λ i. absurd (false≢true i);
  }
  place_stays names role (node forms.VariableNode w f l (more a as')) h r e = absurd h
  place_stays names role (node forms.ParenNode w f l none) h r e = absurd h
  place_stays names role (node forms.ParenNode w f l (more a none)) h r e =
      let t = node forms.ParenNode w f l (more a none) in
      let m = marked names a in
      let x = place_stays names (paren_role role (kind_at m)) a h (part_none role t (kind_at m) m r) e in record {
        component = λ c s. inl (refl, x.component c s);
        element = λ i. inl (refl, (forest1 (scalar m), refl, (x.element i, tt)));
      }
  place_stays names role (node forms.ParenNode w f l (more a (more b bs))) h r e = absurd h
  place_stays names role (node forms.UnaryNode w f l none) h r e = absurd h
  place_stays names role (node forms.UnaryNode w f l (more a none)) h r e =
      let t = node forms.UnaryNode w f l (more a none) in
      let m = marked names a in
      let k = kind_at (marked names t) in
      let x = (content_place (prefix_in w) (kind_at m) e).0 in
      let ha : IsExpressionOf true a = subst (λ z. PrefixOf z a (IsExpressionOf true a)) x h in
      let free : refusals Free m ≡ [] = subst (λ z. refusals (operand_role z k m) m ≡ []) x (part_none role t k m r) in
      let y = expression_stays names Free a ha free (free_apart a names ha free) in record {
        component = λ c s. inr (
          refl,
          (
            scalar m,
            y,
            content_stays (prefix_in w) (kind_at m) c s w f l (more a none)
                (scalar m) e,
          ),
        );
        element = λ i. one_stays t k m (scalar m) (one_by forms.UnaryNode (kind_at m) t (scalar m)) refl refl
            (one_kept forms.UnaryNode (kind_at m) t (scalar m)) y;
      }
  place_stays names role (node forms.UnaryNode w f l (more a (more b bs))) h r e = absurd h
  place_stays names role (node forms.PostfixNode w f l none) h r e = absurd h
  place_stays names role (node forms.PostfixNode w f l (more a none)) (inl h) r e =
      let o = unpointed_selection w (postfix_unpointed w h.0) in
      let i = (index_place (postfix_in w) (kind_at (marked names a))
      (ap (λ z. is_place (postfix_kind z (postfix_in w) (kind_at (marked names a)))) (sym o) ∙ e)).0 in
      absurd (false≢true (sym h.1 ∙ ap indexes i))
  place_stays names role (node forms.PostfixNode w f l (more a none)) (inr h) r e =
      let t = node forms.PostfixNode w f l (more a none) in
      let m = marked names a in
      let k = kind_at (marked names t) in
      let x = selection_some w h.0 in
      let i = ap (λ z. is_place (postfix_kind z (postfix_in w) (kind_at m))) (sym x.1) ∙ e in
      let y = place_stays names (selected_role (selection_in w) k) a h.1 (part_none role t k m r)
      (selected_place (kind_at m) x.0 i) in record {
        component = λ c s. through_stays c s t k m (component_at c s m) (content_component forms.PostfixNode
            (prefix_in w) (kind_at m) c s t (scalar m)) (ap is_some x.1) (y.component c s);
        element = λ z. absurd (false≢true (sym (ap (λ o. element_by forms.PostfixNode o k (is_element m)) x.1) ∙ z));
      }
  place_stays names role (node forms.PostfixNode w f l (more a (more b none))) h r e =
      let t = node forms.PostfixNode w f l (more a (more b none)) in
      let names' = later forms.PostfixNode (more a (more b none)) names true a in
      let m = marked names a in
      let m' = marked names' b in
      let k = kind_at (marked names t) in
      let ms = marking m (marking m' unmarked) in
      let o = unpointed_selection w (postfix_unpointed w (indexes_some (postfix_in w) h.0)) in
      let stay = parts_stay role t k ms (λ x y q. ap (λ z. selected_role z k) o) r in
      let y = expression_stays names Free a h.1 stay.0 (free_apart a names h.1 stay.0) in
      let z = expression_stays names' Free b h.2 stay.1.0 (free_apart b names' h.2 stay.1.0) in record {
        component = λ c s. (
          scalar m,
          scalar m',
          y,
          z,
          index_stays (postfix_in w) (kind_at m) c s w f l
              (more a (more b none)) (scalar m) (scalar m')
              (ap (λ x. is_place (postfix_kind x (postfix_in w) (kind_at m))) (sym o) ∙ e),
        );
        element = λ i. two_stays t k m m' (scalar m) (scalar m') (two_by forms.PostfixNode (kind_at m)
            (kind_at m') t (scalar m) (scalar m'))
            (ap (λ z. one_selected forms.PostfixNode z (components_of (mark t k ms))) o) (two_kept forms.PostfixNode
            (kind_at m) (kind_at m') t (scalar m) (scalar m')) y z;
      }
  place_stays names role (node forms.PostfixNode w f l (more a (more b (more c cs)))) h r e = absurd h
  place_stays names role (node form w f l ps) h r e =
      absurd (false≢true (place_form form w names (marked_parts form ps (within form w names) true ps) e))
