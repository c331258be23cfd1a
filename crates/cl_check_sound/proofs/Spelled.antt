-- What the grammar spells has its wide shape: the induction over productions.
use Rattle.std.proofs.Common.{◌≡◌, ℕ, suc, List, [], ◌∷◌, ◌++◌, Bool, true, false, refl, ap, inl, inr}
use Rattle.std.proofs.lemmas.Bool.{false≢true}
use Rattle.cl_token.specs.declared.token.Token.{Token}
use Rattle.cl_token.specs.declared.token.Kind.{Kind}
use Rattle.cl_token.specs.declared.token.Kind.TheVariants as token_kinds
use Rattle.cl_token.specs.Spelling.{HasValue}
use Rattle.cl_tree.specs.declared.terminal.Terminal.TheVariants as terminals
use Rattle.cl_tree.specs.declared.terminal.Leaf.{Leaf}
use Rattle.cl_tree.specs.Leaves.{leaves_of}
use Rattle.cl_tree.specs.Nodes.{tok}
use Rattle.cl_tree.specs.Grammar.{Sort, Value, Spells}
use Rattle.cl_tree.specs.Grammar as grammar
use Rattle.cl_meaning.specs.Literals.{literal_in}
use Rattle.cl_meaning.specs.Operators.{prefix_in}
use Rattle.cl_meaning.specs.Kinds.{is_some}
use Rattle.cl_check_sound.specs.Shape.{IsExpressionOf, IsDefinitionOf, IsAnnouncement}
use Rattle.cl_meaning.proofs.Numbers.{literal_is}
use Rattle.cl_check_sound.specs.Law.{NumbersRead, UnitsShaped, WideShaped}
use Rattle.cl_check_sound.proofs.WordFacts.{token_word}
use Rattle.cl_check_sound.proofs.Narrow.{narrow}
use Rattle.cl_check_sound.proofs.TypeFacts.{type_spelled, qualifiers_append}
use Rattle.cl_check_sound.proofs.Grammatical.{AllWords, left, right, ShapeOf, many_none, many_and}
use Rattle.cl_check_sound.proofs.Grammatical.{are_expressions}
use Rattle.cl_check_sound.proofs.Grammatical.{are_items, are_lines, are_statements, are_declarators, are_params}
use Rattle.cl_check_sound.proofs.Grammatical.{are_lengths, are_set, is_optional, maybe_parts, starred, param_shape}
use Rattle.cl_check_sound.proofs.Grammatical.{type_with, base_type_word, base_of_sign, sign_core, one_word}
use Rattle.cl_check_sound.proofs.Grammatical.{core_of_char, core_of_int, core_of_length, core_of_both, front_words}
use Rattle.cl_check_sound.proofs.Grammatical.{qualifier_word, operand_prefix, prefix_word, set_word, size_word}
use Rattle.cl_check_sound.proofs.Grammatical.{index_word, selection_word, level_shape, sizeof_shape, index_shape}
use Rattle.cl_check_sound.proofs.Grammatical.{for_shape, block_statement, simple_statement, behind_heads, head_shape}

pub shape : {s : Sort} {v : Value} {x : List Leaf} → Spells s v x → AllWords x → ShapeOf s v
shape grammar.maybe_none h = tt
shape (grammar.maybe_some d) h = shape d h
shape (grammar.many_end {s = s}) h = many_none s
shape (grammar.many_more {s = s} {a = a} {ts = ts} {x = x} d {b = b} {us = us} {y = y} e) h =
    many_and s a b ts us (shape d (left x y h)) (shape e (right x y h))
shape (grammar.just d) h = (shape d h, tt)
shape (grammar.comma k d) h = (shape d h.1, tt)
shape (grammar.unit {ts = ts} d) h = are_items ts (shape d h)
shape (grammar.item_declare d) h = inr (inr (shape d h))
shape (grammar.function {heads = heads} {x = x} d {r = r} {y = y} e m o {ts = ts} {z = z} p c {b = b} {w = w} q) h =
    let h1 = right x (y ++ (tok terminals.Name m ∷ tok terminals.Open o ∷ (z ++ (tok terminals.Close c ∷ w)))) h in
    let h2 = right y (tok terminals.Name m ∷ tok terminals.Open o ∷ (z ++ (tok terminals.Close c ∷ w))) h1 in
    let h3 = right z (tok terminals.Close c ∷ w) h2.1.1 in
    inl (behind_heads (IsDefinitionOf true) heads r _
    (shape d (left x (y ++ (tok terminals.Name m ∷ tok terminals.Open o ∷ (z ++ (tok terminals.Close c ∷ w))))
    h)) (
      shape e (left y (tok terminals.Name m ∷ tok terminals.Open o ∷ (z ++ (tok terminals.Close c ∷ w)))
          h1),
      are_params ts (shape p (left z (tok terminals.Close c ∷ w) h2.1.1)),
      shape q h3.1,
    ))
shape (grammar.prototype {heads = heads} {x = x} d {r = r} {y = y} e m o {ts = ts} {z = z} p c s) h =
    let h1 = right x (y ++ (tok terminals.Name m ∷ tok terminals.Open o ∷
    (z ++ (tok terminals.Close c ∷ tok terminals.Semicolon s ∷ [])))) h in
    let h2 = right y (tok terminals.Name m ∷ tok terminals.Open o ∷
    (z ++ (tok terminals.Close c ∷ tok terminals.Semicolon s ∷ []))) h1 in
    inr (inl (behind_heads IsAnnouncement heads r _
    (shape d (left x (y ++ (tok terminals.Name m ∷ tok terminals.Open o ∷
    (z ++ (tok terminals.Close c ∷ tok terminals.Semicolon s ∷ [])))) h)) (
      shape e (left y (tok terminals.Name m ∷ tok terminals.Open o ∷
          (z ++ (tok terminals.Close c ∷ tok terminals.Semicolon s ∷ []))) h1),
      are_params ts (shape p (left z (tok terminals.Close c ∷ tok terminals.Semicolon s ∷ []) h2.1.1)),
    )))
shape (grammar.head_word m) h = tt
shape (grammar.head_attribute {t = t} d) h = head_shape [] 0 0 t (shape d h)
shape (grammar.attribute w o p n q {x = x} d j {y = y} e k {z = z} g a b c) h =
    let t1 = tok terminals.Comma j ∷
    (y ++ (tok terminals.Comma k ∷
    (z ++ (tok terminals.Close a ∷ tok terminals.Close b ∷ tok terminals.Close c ∷ [])))) in
    let t2 =
    tok terminals.Comma k ∷ (z ++ (tok terminals.Close a ∷ tok terminals.Close b ∷ tok terminals.Close c ∷ [])) in
    let t3 = tok terminals.Close a ∷ tok terminals.Close b ∷ tok terminals.Close c ∷ [] in
    let h1 = h.1.1.1.1.1 in
    let h2 = (right x t1 h1).1 in
    let h3 = (right y t2 h2).1 in
    (shape d (left x t1 h1), (shape e (left y t2 h2), (shape g (left z t3 h3), tt)))
shape (grammar.result_void m) h = tt
shape (grammar.result d) h = shape d h
shape grammar.params_none h = tt
shape (grammar.params_void m) h = tt
shape (grammar.params {x = x} d {y = y} e) h = (shape d (left x y h), shape e (right x y h))
shape (grammar.param {t = t} {x = x} d {ss = ss} {y = y} e m) h =
    param_shape [] 0 0 t ss (shape d (left x (y ++ (tok terminals.Name m ∷ [])) h))
    (shape e (left y (tok terminals.Name m ∷ []) (right x (y ++ (tok terminals.Name m ∷ [])) h)))
shape (grammar.type_plain {a = a} {x = x} d {d = b} {y = y} e {c = c} {z = z} g) h =
    let h1 = right x (y ++ z) h in
    type_spelled a b c (shape d (left x (y ++ z) h) refl) (shape e (left y z h1)) (shape g (right y z h1) refl)
shape (grammar.type_front {a = a} {x = x} d {s = s} {u = u} e {b = b} {v = v} g {d = k} {y = y} i {c = c} {z = z} j) h =
    let h1 = right x (u ++ (v ++ (y ++ z))) h in
    let h2 = right u (v ++ (y ++ z)) h1 in
    let h3 = right v (y ++ z) h2 in
    type_with _ 0 0 s (shape e (left u (v ++ (y ++ z)) h1))
    (front_words a b k c (shape d (left x (u ++ (v ++ (y ++ z))) h) refl) (shape g (left v (y ++ z) h2) refl)
    (shape i (left y z h3)) (shape j (right y z h3) refl))
shape (grammar.type_behind {a = a} {x = x} d {d = k} {y = y} e {b = b} {v = v} g {s = s} {u = u} i {c = c} {z = z} j)
    h =
    let h1 = right x (y ++ (v ++ (u ++ z))) h in
    let h2 = right y (v ++ (u ++ z)) h1 in
    let h3 = right v (u ++ z) h2 in
    type_with _ 0 0 s (shape i (left u z h3))
    (type_spelled a k (b ++ c) (shape d (left x (y ++ (v ++ (u ++ z))) h) refl)
    (shape e (left y (v ++ (u ++ z)) h1)) (qualifiers_append b c (shape g (left v (u ++ z) h2) refl)
    (shape j (right u z h3) refl)))
shape (grammar.qualifier {behind_star = b} j m q) h = qualifier_word b j m q h.0
shape (grammar.space m) h = tt
shape (grammar.base_word m) h = base_type_word m.word h.0
shape (grammar.base_sign m) h = base_of_sign m.word h.0
shape (grammar.base_core d) h = (shape d h).0
shape (grammar.base_sign_core m d) h = sign_core m.word _ h.0 (shape d h.1)
shape (grammar.core_char m) h = one_word m.word _ h.0 core_of_char
shape (grammar.core_int m) h = one_word m.word _ h.0 core_of_int
shape (grammar.core_length m) h = core_of_length m.word h.0
shape (grammar.core_length_int m i) h = core_of_both m.word i.word h.0 h.1.0
shape (grammar.star o d) h = tt
shape (grammar.declare {x = x} d {y = y} e {ds = ds} {z = z} g s) h =
    let t2 = z ++ (tok terminals.Semicolon s ∷ []) in
    let h1 = right x (y ++ t2) h in
    let h2 = right y t2 h1 in (
      shape d (left x (y ++ t2) h),
      (shape e (left y t2 h1), are_declarators ds (shape g (left z (tok terminals.Semicolon s ∷ []) h2))),
    )
shape (grammar.declarator {ss = ss} {x = x} d m {ds = ds} {y = y} e) h =
    starred [] 0 0 ss ds (shape d (left x (tok terminals.Name m ∷ y) h))
    (are_lengths ds (shape e (right x (tok terminals.Name m ∷ y) h).1))
shape (grammar.declarator_set {ss = ss} {x = x} d m {ds = ds} {y = y} e k {i = i} {z = z} g) h =
    let t1 = tok terminals.Name m ∷ (y ++ (tok terminals.Equals k ∷ z)) in
    let h1 = (right x t1 h).1 in
    starred [] 0 0 ss _ (shape d (left x t1 h)) (are_set ds i (shape e (left y (tok terminals.Equals k ∷ z) h1))
    (shape g (right y (tok terminals.Equals k ∷ z) h1).1))
shape (grammar.dimension o {ts = ts} {x = x} d c) h =
    maybe_parts (IsExpressionOf true) ts (shape d (left x (tok terminals.CloseBracket c ∷ []) h.1))
shape (grammar.init_assign d) h = inl (shape d h)
shape (grammar.init_list d) h = inr (shape d h)
shape (grammar.initializers o {x = x} d {ts = ts} {y = y} e c) h =
    let t1 = y ++ (tok terminals.CloseBrace c ∷ []) in
    let h1 = right x t1 h.1 in
    (shape d (left x t1 h.1), are_expressions ts (shape e (left y (tok terminals.CloseBrace c ∷ []) h1)))
shape grammar.elements_end h = tt
shape (grammar.elements_comma k) h = tt
shape (grammar.elements_more k {x = x} d {y = y} e) h = (shape d (left x y h.1), shape e (right x y h.1))
shape (grammar.block o {ts = ts} {x = x} d c) h = are_lines ts (shape d (left x (tok terminals.CloseBrace c ∷ []) h.1))
shape (grammar.line_declare d) h = inl (shape d h)
shape (grammar.line_statement d) h = inr (shape d h)
shape (grammar.statement_block {t = t} d) h = block_statement t (shape d h)
shape (grammar.statement_simple {t = t} d) h = simple_statement t (shape d h)
shape (grammar.simple {ts = ts} {x = x} d s) h = is_optional ts (shape d (left x (tok terminals.Semicolon s ∷ []) h))
shape (grammar.if_short i o {x = x} d c {y = y} e) h =
    let t1 = tok terminals.Close c ∷ y in
    (shape d (left x t1 h.1.1), shape e (right x t1 h.1.1).1)
shape (grammar.if_long i o {x = x} d c {y = y} e q k {z = z} g) h =
    let t2 = tok terminals.Else k ∷ z in
    let t1 = tok terminals.Close c ∷ (y ++ t2) in
    let h1 = (right x t1 h.1.1).1 in
    (shape d (left x t1 h.1.1), shape e (left y t2 h1), shape g (right y t2 h1).1)
shape (grammar.while w o {x = x} d c {y = y} e) h =
    let t1 = tok terminals.Close c ∷ y in
    (shape d (left x t1 h.1.1), shape e (right x t1 h.1.1).1)
shape (grammar.do_while k {x = x} d w o {y = y} e c m) h =
    let t2 = tok terminals.Close c ∷ tok terminals.Semicolon m ∷ [] in
    let t1 = tok terminals.While w ∷ tok terminals.Open o ∷ (y ++ t2) in
    (shape d (left x t1 h.1), shape e (left y t2 (right x t1 h.1).1.1))
shape (grammar.for f o {d = i} {x = x} d {ts = ts} {y = y} e s {us = us} {z = z} g c {b = b} {w = w} k) h =
    let t3 = tok terminals.Close c ∷ w in
    let t2 = tok terminals.Semicolon s ∷ (z ++ t3) in
    let h0 = h.1.1 in
    let h1 = right x (y ++ t2) h0 in
    let h2 = (right y t2 h1).1 in
    for_shape [] 0 0 i b ts us (shape d (left x (y ++ t2) h0)) (shape e (left y t2 h1)) (shape g (left z t3 h2))
    (shape k (right z t3 h2).1)
shape (grammar.start_declare d) h = inl (shape d h)
shape (grammar.start_simple d) h = inr (shape d h)
shape (grammar.switch w o {x = x} d c b {ts = ts} {y = y} e k) h =
    let t2 = tok terminals.CloseBrace k ∷ [] in
    let t1 = tok terminals.Close c ∷ tok terminals.OpenBrace b ∷ (y ++ t2) in
    (shape d (left x t1 h.1.1), are_statements ts (shape e (left y t2 (right x t1 h.1.1).1.1)))
shape (grammar.case w {x = x} d c {y = y} e) h =
    let t1 = tok terminals.Colon c ∷ y in
    (shape d (left x t1 h.1), shape e (right x t1 h.1).1)
shape (grammar.default w c d) h = shape d h.1.1
shape (grammar.break w s) h = tt
shape (grammar.continue w s) h = tt
shape (grammar.return w {ts = ts} {x = x} d s) h =
    is_optional ts (shape d (left x (tok terminals.Semicolon s ∷ []) h.1))
shape (grammar.expr_assign d) h = shape d h
shape (grammar.expr {x = x} d m {y = y} e) h =
    (shape d (left x (tok terminals.Comma m ∷ y) h), shape e (right x (tok terminals.Comma m ∷ y) h).1)
shape (grammar.assign_cond d) h = shape d h
shape (grammar.assign {x = x} d j m q {y = y} e) h =
    let h1 = right x (tok j m ∷ y) h in
    (set_word j m.word q h1.0, shape d (left x (tok j m ∷ y) h), shape e h1.1)
shape (grammar.cond_level d) h = shape d h
shape (grammar.cond {x = x} d q {y = y} e c {z = z} g) h =
    let t2 = tok terminals.Colon c ∷ z in
    let t1 = tok terminals.Question q ∷ (y ++ t2) in
    let h1 = (right x t1 h).1 in
    (shape d (left x t1 h), shape e (left y t2 h1), shape g (right y t2 h1).1)
shape (grammar.level_cast d) h = shape d h
shape (grammar.level_next d) h = shape d h
shape (grammar.level {k = k} {l = l} {x = x} d j m q {r = r} {y = y} e) h =
    let h1 = right x (tok j m ∷ y) h in
    level_shape k j m.word _ _ l r q h1.0 (shape d (left x (tok j m ∷ y) h)) (shape e h1.1)
shape (grammar.cast_unary d) h = shape d h
shape (grammar.cast o {x = x} d c {y = y} e) h =
    let t1 = tok terminals.Close c ∷ y in
    (shape d (left x t1 h.1), shape e (right x t1 h.1).1)
shape (grammar.unary_postfix d) h = shape d h
shape (grammar.unary_step m {t = t} d) h =
    operand_prefix (prefix_in m.word) t (IsExpressionOf true t) h.0.0 (shape d h.1)
shape (grammar.unary_prefix j m q {t = t} d) h =
    operand_prefix (prefix_in m.word) t (IsExpressionOf true t) (prefix_word j m.word q h.0) (shape d h.1)
shape (grammar.unary_sizeof w o {t = t} {x = x} d c) h =
    let t1 = tok terminals.Close c ∷ [] in
    let h1 = right x t1 h.1.1 in
    sizeof_shape _ 0 0 t (size_word w.word o.word c.word h.0 h.1.0 h1.0) (shape d (left x t1 h.1.1))
shape (grammar.postfix_primary d) h = shape d h
shape (grammar.index {l = l} {x = x} d o {e = e} {y = y} g c) h =
    let t2 = tok terminals.CloseBracket c ∷ [] in
    let t1 = tok terminals.OpenBracket o ∷ (y ++ t2) in
    let h1 = right x t1 h in
    index_shape _ 0 0 l e (index_word o.word c.word h1.0 (right y t2 h1.1).0) (shape d (left x t1 h))
    (shape g (left y t2 h1.1))
shape (grammar.step {x = x} d m) h =
    let h1 = (right x (tok terminals.Step m ∷ []) h).0 in
    inl (h1.1, h1.2, shape d (left x (tok terminals.Step m ∷ []) h))
shape (grammar.selection {x = x} d p n) h =
    let t1 = tok terminals.Point p ∷ tok terminals.Name n ∷ [] in
    inr (selection_word p.word n.word (right x t1 h).0, shape d (left x t1 h))
shape (grammar.number n) h = h.0
shape (grammar.truth n) h = h.0
shape (grammar.variable n) h = tt
shape (grammar.call_none n o c) h = tt
shape (grammar.call n o {x = x} d {ts = ts} {y = y} e c) h =
    let t1 = y ++ (tok terminals.Close c ∷ []) in
    let h1 = right x t1 h.1.1 in
    (shape d (left x t1 h.1.1), are_expressions ts (shape e (left y (tok terminals.Close c ∷ []) h1)))
shape (grammar.paren o {x = x} d c) h = shape d (left x (tok terminals.Close c ∷ []) h.1)

-- ---- tokens

abbrev is_number : Kind → Bool
is_number token_kinds.Number = true
is_number k = false

number_read : (k : Kind) (w : List ℕ) → HasValue k w → k ≡ token_kinds.Number → is_some (literal_in w) ≡ true
number_read token_kinds.Number w h e = ap is_some (literal_is w h.0 h.1 h.2)
number_read token_kinds.Name w h e = absurd (false≢true (ap is_number e))
number_read token_kinds.Mark w h e = absurd (false≢true (ap is_number e))
number_read token_kinds.Hash w h e = absurd (false≢true (ap is_number e))

all_words : (n : ℕ) (tokens : List Token) → NumbersRead tokens → AllWords (leaves_of n tokens)
all_words n [] h = tt
all_words n (t ∷ ts) h = (token_word t.kind t.word (number_read t.kind t.word h.0), all_words (suc n) ts h.1)

pub spelled_wide : WideShaped
spelled_wide t tokens s h = shape s (all_words 0 tokens h)

pub spelled_shape : UnitsShaped
spelled_shape t tokens s h none = narrow t (spelled_wide t tokens s h) none
