-- What tokens spell has the words of a source: names without points, and no leaf that begins with one.
use Rattle.std.proofs.Common.{◌≡◌, ℕ, zero, suc, List, [], ◌∷◌, ◌++◌, Bool, true, refl, ap, sym, ◌∙◌, subst}
use Rattle.std.proofs.Common.{inl, inr}
use Rattle.std.proofs.lemmas.Bool.{false≢true}
use Rattle.cl_token.specs.declared.token.Token.{Token}
use Rattle.cl_model.specs.Lists.{Each}
use Rattle.cl_tree.specs.declared.terminal.Terminal.{Terminal}
use Rattle.cl_tree.specs.declared.terminal.Terminal.TheVariants as terminals
use Rattle.cl_tree.specs.declared.terminal.Leaf.{Leaf}
use Rattle.cl_tree.specs.declared.tree.Form.{Form}
use Rattle.cl_tree.specs.declared.tree.Form.TheVariants as forms
use Rattle.cl_tree.specs.Leaves.{leaves_of}
use Rattle.cl_tree.specs.Precedence as precedence
use Rattle.cl_tree.specs.Precedence.{qualifies}
use Rattle.cl_tree.specs.Syntax.{Syntax, node, Forest, none, more, joined}
use Rattle.cl_tree.specs.Nodes.{Spot, tok, spelled}
use Rattle.cl_tree.specs.Grammar.{Sort, Base, Core, Qualifier, Many, Value, one, list, Spells, SpellsUnit}
use Rattle.cl_tree.specs.Grammar as grammar
use Rattle.cl_meaning.specs.OwnWords.{name_in}
use Rattle.cl_check_sound.specs.Shape.{IsType, IsExpressionOf}
use Rattle.cl_check_sound.proofs.Grown.{each_append}
use Rattle.cl_short_vec_correct.specs.Sources.{is_sourced, NamedBy, Sourced, AllSourced}
use Rattle.cl_short_vec.proofs.OwnNames.{HasNoBlank, alone_name}
use Rattle.cl_short_vec_correct.proofs.Sourced.{name_more}
use Rattle.cl_short_vec_correct.proofs.Says.{IsOwn, DeclaredBy, Own, AllOwn}
use Rattle.cl_short_vec_correct.proofs.Making.{AreTypesOr, operands_are}
use Rattle.cl_short_vec_correct.proofs.TokenWords.{IsPlain, plain_sourced, OwnWord, token_own, TokensPlain}

-- ---- trees

-- names hold no point, and no leaf begins with one
abbrev pub WordBy : Form → List ℕ → Type 0
WordBy forms.VariableNode w = IsOwn (name_in w)
WordBy forms.CallNode w = IsOwn (name_in w)
WordBy forms.DeclaratorNode w = IsOwn (name_in w)
WordBy forms.ParamNode w = IsOwn (name_in w)
WordBy forms.FunctionNode w = IsOwn (name_in w)
WordBy forms.PrototypeNode w = IsOwn (name_in w)
WordBy forms.NumberNode w = is_sourced (name_in w) ≡ true
WordBy forms.TruthNode w = is_sourced (name_in w) ≡ true
WordBy forms.TypeNode w = is_sourced (name_in w) ≡ true
WordBy forms.SpaceNode w = is_sourced (name_in w) ≡ true
WordBy form w = Unit {0}

-- the words of all nodes
abbrev mutual
  pub HasWords : Syntax → Type 0
  HasWords (node form w f l parts) = WordBy form w × HaveWords parts

  pub HaveWords : Forest → Type 0
  HaveWords none = Unit {0}
  HaveWords (more p ps) = HasWords p × HaveWords ps

joined_words : (ts us : Forest) → HaveWords ts → HaveWords us → HaveWords (joined ts us)
joined_words none us h k = k
joined_words (more t ts) us h k = (h.0, joined_words ts us h.1 k)

-- ---- words of some tokens

before_name : (n w : List ℕ) → HasNoBlank n → name_in (n ++ (32 ∷ w)) ≡ n
before_name [] w h = refl
before_name (b ∷ n) w h = name_more b (n ++ (32 ∷ w)) h.0 ∙ ap (λ z. b ∷ z) (before_name n w h.1)

front_name : (m : Spot) (ms : List Spot) → HasNoBlank m.word → name_in (spelled (m ∷ ms)) ≡ m.word
front_name m [] h = alone_name m.word h
front_name m (n ∷ ms) h = before_name m.word (spelled (n ∷ ms)) h

own_name : (m : Spot) (ms : List Spot) → IsPlain m.word → IsOwn (name_in (spelled (m ∷ ms)))
own_name m ms h = subst IsOwn (sym (front_name m ms h.0)) (h.1, h.2)

abbrev PlainSpots : List Spot → Type 0
PlainSpots a = Each (λ (m : Spot). IsPlain m.word) a

abbrev HasSpot : List Spot → Type 0
HasSpot [] = ⊥
HasSpot (m ∷ ms) = Unit {0}

plain_append : (a b : List Spot) → PlainSpots a → PlainSpots b → PlainSpots (a ++ b)
plain_append a b h k = each_append (λ (m : Spot). IsPlain m.word) a b h k

spot_left : (a b : List Spot) → HasSpot a → HasSpot (a ++ b)
spot_left [] b h = absurd h
spot_left (m ∷ a) b h = tt

spot_right : (a b : List Spot) → HasSpot b → HasSpot (a ++ b)
spot_right [] b h = h
spot_right (m ∷ a) b h = tt

type_own : (own : List Spot) → PlainSpots own → HasSpot own → is_sourced (name_in (spelled own)) ≡ true
type_own [] h k = absurd k
type_own (m ∷ ms) h k = (own_name m ms h.0).0

-- ---- what each sort is

abbrev ManySpots : Sort → List Spot → Type 0
ManySpots (Qualifier b) a = PlainSpots a
ManySpots s a = Unit {0}

abbrev SpotsOf : Sort → List Spot → Type 0
SpotsOf (Qualifier b) a = PlainSpots a
SpotsOf (Many s) a = ManySpots s a
SpotsOf Base a = PlainSpots a × HasSpot a
SpotsOf Core a = PlainSpots a × HasSpot a
SpotsOf s a = Unit {0}

abbrev WordsOf : Sort → Value → Type 0
WordsOf s (one t) = HasWords t
WordsOf s (list a ts) = SpotsOf s a × HaveWords ts

many_none : (s : Sort) → ManySpots s []
many_none (Qualifier b) = tt
many_none s = tt

many_and : (s : Sort) (a b : List Spot) → SpotsOf s a → ManySpots s b → ManySpots s (a ++ b)
many_and (Qualifier c) a b h k = plain_append a b h k
many_and s a b h k = tt

qualifier_plain : (b : Bool) (j : Terminal) (w : List ℕ) → qualifies b j ≡ true → OwnWord j w → IsPlain w
qualifier_plain b terminals.Qualifier w q h = h
qualifier_plain b terminals.Restrict w q h = h
qualifier_plain b j w q h = absurd (false≢true q)

level_word : (k : ℕ) (w : List ℕ) → WordBy (precedence.form_of k) w
level_word zero w = tt
level_word (suc zero) w = tt
level_word (suc (suc zero)) w = tt
level_word (suc (suc (suc zero))) w = tt
level_word (suc (suc (suc (suc zero)))) w = tt
level_word (suc (suc (suc (suc (suc zero))))) w = tt
level_word (suc (suc (suc (suc (suc (suc zero)))))) w = tt
level_word (suc (suc (suc (suc (suc (suc (suc zero))))))) w = tt
level_word (suc (suc (suc (suc (suc (suc (suc (suc zero)))))))) w = tt
level_word (suc (suc (suc (suc (suc (suc (suc (suc (suc k))))))))) w = tt

-- ---- words of leaves

abbrev AllLeaves : List Leaf → Type 0
AllLeaves x = Each (λ (leaf : Leaf). OwnWord leaf.terminal leaf.word) x

left : (x y : List Leaf) → AllLeaves (x ++ y) → AllLeaves x
left [] y h = tt
left (a ∷ x) y h = (h.0, left x y h.1)

right : (x y : List Leaf) → AllLeaves (x ++ y) → AllLeaves y
right [] y h = h
right (a ∷ x) y h = right x y h.1

-- ---- the induction over productions

words : {s : Sort} {v : Value} {x : List Leaf} → Spells s v x → AllLeaves x → WordsOf s v
words grammar.maybe_none h = (tt, tt)
words (grammar.maybe_some d) h = (tt, (words d h, tt))
words (grammar.many_end {s = s}) h = (many_none s, tt)
words (grammar.many_more {s = s} {a = a} {ts = ts} {x = x} d {b = b} {us = us} {y = y} e) h =
    let p = words d (left x y h) in
    let q = words e (right x y h) in
    (many_and s a b p.0 q.0, joined_words ts us p.1 q.1)
words (grammar.just d) h = (tt, (words d h, tt))
words (grammar.comma k d) h = (tt, (words d h.1, tt))
words (grammar.unit {ts = ts} d) h = (tt, (words d h).1)
words (grammar.item_declare d) h = words d h
words (grammar.function {heads = heads} {x = x} d {r = r} {y = y} e m o {ts = ts} {z = z} p c {b = b} {w = w} q) h =
    let t3 = tok terminals.Close c ∷ w in
    let t2 = tok terminals.Name m ∷ tok terminals.Open o ∷ (z ++ t3) in
    let h1 = right x (y ++ t2) h in
    let h2 = right y t2 h1 in
    let h3 = right z t3 h2.1.1 in (
      own_name m (o ∷ c ∷ []) h2.0,
      joined_words heads _ (words d (left x (y ++ t2) h)).1
          (words e (left y t2 h1), ((tt, (words p (left z t3 h2.1.1)).1), (words q h3.1, tt))),
    )
words (grammar.prototype {heads = heads} {x = x} d {r = r} {y = y} e m o {ts = ts} {z = z} p c s) h =
    let t3 = tok terminals.Close c ∷ tok terminals.Semicolon s ∷ [] in
    let t2 = tok terminals.Name m ∷ tok terminals.Open o ∷ (z ++ t3) in
    let h1 = right x (y ++ t2) h in
    let h2 = right y t2 h1 in (
      own_name m (o ∷ c ∷ s ∷ []) h2.0,
      joined_words heads _ (words d (left x (y ++ t2) h)).1
          (words e (left y t2 h1), ((tt, (words p (left z t3 h2.1.1)).1), tt)),
    )
words (grammar.head_word m) h = (tt, tt)
words (grammar.head_attribute d) h = (tt, (words d h, tt))
words (grammar.attribute w o p n q {x = x} d j {y = y} e k {z = z} g a b c) h =
    let t3 = tok terminals.Close a ∷ tok terminals.Close b ∷ tok terminals.Close c ∷ [] in
    let t2 = tok terminals.Comma k ∷ (z ++ t3) in
    let t1 = tok terminals.Comma j ∷ (y ++ t2) in
    let h1 = h.1.1.1.1.1 in
    let h2 = (right x t1 h1).1 in
    let h3 = (right y t2 h2).1 in
    (tt, (words d (left x t1 h1), (words e (left y t2 h2), (words g (left z t3 h3), tt))))
words (grammar.result_void m) h = (tt, tt)
words (grammar.result d) h = (tt, (words d h, tt))
words grammar.params_none h = (tt, tt)
words (grammar.params_void m) h = (tt, tt)
words (grammar.params {x = x} d {y = y} e) h = (tt, (words d (left x y h), (words e (right x y h)).1))
words (grammar.param {x = x} d {y = y} e m) h =
    let t1 = tok terminals.Name m ∷ [] in
    let h1 = right x (y ++ t1) h in
    (own_name m [] (right y t1 h1).0, (words d (left x (y ++ t1) h), (words e (left y t1 h1)).1))
words (grammar.type_plain {a = a} {x = x} d {d = b} {y = y} e {c = c} {z = z} g) h =
    let h1 = right x (y ++ z) h in
    let p = words d (left x (y ++ z) h) in
    let q = words e (left y z h1) in
    let r = words g (right y z h1) in (
      type_own (a ++ (b ++ c)) (plain_append a (b ++ c) p.0 (plain_append b c q.0.0 r.0))
          (spot_right a (b ++ c) (spot_left b c q.0.1)),
      tt,
    )
words (grammar.type_front {a = a} {x = x} d {s = s} {u = u} e {b = b} {v = v} g {d = k} {y = y} i {c = c} {z = z} j) h =
    let h1 = right x (u ++ (v ++ (y ++ z))) h in
    let h2 = right u (v ++ (y ++ z)) h1 in
    let h3 = right v (y ++ z) h2 in
    let p = words d (left x (u ++ (v ++ (y ++ z))) h) in
    let q = words g (left v (y ++ z) h2) in
    let r = words i (left y z h3) in
    let t = words j (right y z h3) in (
      type_own (a ++ (b ++ (k ++ c))) (plain_append a (b ++ (k ++ c)) p.0 (plain_append b (k ++ c) q.0
          (plain_append k c r.0.0 t.0))) (spot_right a (b ++ (k ++ c)) (spot_right b (k ++ c)
          (spot_left k c r.0.1))),
      (words e (left u (v ++ (y ++ z)) h1), tt),
    )
words (grammar.type_behind {a = a} {x = x} d {d = k} {y = y} e {b = b} {v = v} g {s = s} {u = u} i {c = c} {z = z} j)
    h =
    let h1 = right x (y ++ (v ++ (u ++ z))) h in
    let h2 = right y (v ++ (u ++ z)) h1 in
    let h3 = right v (u ++ z) h2 in
    let p = words d (left x (y ++ (v ++ (u ++ z))) h) in
    let q = words e (left y (v ++ (u ++ z)) h1) in
    let r = words g (left v (u ++ z) h2) in
    let t = words j (right u z h3) in (
      type_own (a ++ (k ++ (b ++ c))) (plain_append a (k ++ (b ++ c)) p.0 (plain_append k (b ++ c) q.0.0
          (plain_append b c r.0 t.0))) (spot_right a (k ++ (b ++ c)) (spot_left k (b ++ c) q.0.1)),
      (words i (left u z h3), tt),
    )
words (grammar.qualifier {behind_star = b} j m q) h = ((qualifier_plain b j m.word q h.0, tt), tt)
words (grammar.space m) h = (plain_sourced m.word h.0, tt)
words (grammar.base_word m) h = (((h.0, tt), tt), tt)
words (grammar.base_sign m) h = (((h.0, tt), tt), tt)
words (grammar.base_core d) h = words d h
words (grammar.base_sign_core m d) h = (((h.0, (words d h.1).0.0), tt), tt)
words (grammar.core_char m) h = (((h.0, tt), tt), tt)
words (grammar.core_int m) h = (((h.0, tt), tt), tt)
words (grammar.core_length m) h = (((h.0, tt), tt), tt)
words (grammar.core_length_int m i) h = (((h.0, (h.1.0, tt)), tt), tt)
words (grammar.star o d) h = (tt, tt)
words (grammar.declare {x = x} d {y = y} e {ds = ds} {z = z} g s) h =
    let t2 = z ++ (tok terminals.Semicolon s ∷ []) in
    let h1 = right x (y ++ t2) h in
    let h2 = right y t2 h1 in (
      tt,
      (
        words d (left x (y ++ t2) h),
        (
          words e (left y t2 h1),
          (words g (left z (tok terminals.Semicolon s ∷ []) h2)).1,
        ),
      ),
    )
words (grammar.declarator {ss = ss} {x = x} d m {a = a} {ds = ds} {y = y} e) h =
    let h1 = right x (tok terminals.Name m ∷ y) h in
    (own_name m a h1.0, joined_words ss ds (words d (left x (tok terminals.Name m ∷ y) h)).1 (words e h1.1).1)
words (grammar.declarator_set {ss = ss} {x = x} d m {a = a} {ds = ds} {y = y} e k {i = i} {z = z} g) h =
    let t2 = tok terminals.Equals k ∷ z in
    let t1 = tok terminals.Name m ∷ (y ++ t2) in
    let h1 = right x t1 h in (
      own_name m (a ++ (k ∷ [])) h1.0,
      joined_words ss _ (words d (left x t1 h)).1
          (joined_words ds _ (words e (left y t2 h1.1)).1 (words g (right y t2 h1.1).1, tt)),
    )
words (grammar.dimension o {ts = ts} {x = x} d c) h =
    (tt, (words d (left x (tok terminals.CloseBracket c ∷ []) h.1)).1)
words (grammar.init_assign d) h = words d h
words (grammar.init_list d) h = words d h
words (grammar.initializers o {x = x} d {ts = ts} {y = y} e c) h =
    let t1 = y ++ (tok terminals.CloseBrace c ∷ []) in
    let h1 = right x t1 h.1 in
    (tt, (words d (left x t1 h.1), (words e (left y (tok terminals.CloseBrace c ∷ []) h1)).1))
words grammar.elements_end h = (tt, tt)
words (grammar.elements_comma k) h = (tt, tt)
words (grammar.elements_more k {x = x} d {y = y} e) h = (tt, (words d (left x y h.1), (words e (right x y h.1)).1))
words (grammar.block o {ts = ts} {x = x} d c) h = (tt, (words d (left x (tok terminals.CloseBrace c ∷ []) h.1)).1)
words (grammar.line_declare d) h = words d h
words (grammar.line_statement d) h = words d h
words (grammar.statement_block d) h = words d h
words (grammar.statement_simple d) h = words d h
words (grammar.simple {ts = ts} {x = x} d s) h = (tt, (words d (left x (tok terminals.Semicolon s ∷ []) h)).1)
words (grammar.if_short i o {x = x} d c {y = y} e) h =
    let t1 = tok terminals.Close c ∷ y in
    (tt, (words d (left x t1 h.1.1), (words e (right x t1 h.1.1).1, tt)))
words (grammar.if_long i o {x = x} d c {y = y} e q k {z = z} g) h =
    let t2 = tok terminals.Else k ∷ z in
    let t1 = tok terminals.Close c ∷ (y ++ t2) in
    let h1 = (right x t1 h.1.1).1 in
    (tt, (words d (left x t1 h.1.1), (words e (left y t2 h1), (words g (right y t2 h1).1, tt))))
words (grammar.while w o {x = x} d c {y = y} e) h =
    let t1 = tok terminals.Close c ∷ y in
    (tt, (words d (left x t1 h.1.1), (words e (right x t1 h.1.1).1, tt)))
words (grammar.do_while k {x = x} d w o {y = y} e c m) h =
    let t2 = tok terminals.Close c ∷ tok terminals.Semicolon m ∷ [] in
    let t1 = tok terminals.While w ∷ tok terminals.Open o ∷ (y ++ t2) in
    (tt, (words d (left x t1 h.1), (words e (left y t2 (right x t1 h.1).1.1), tt)))
words (grammar.for f o {d = i} {x = x} d {ts = ts} {y = y} e s {us = us} {z = z} g c {b = b} {w = w} k) h =
    let t3 = tok terminals.Close c ∷ w in
    let t2 = tok terminals.Semicolon s ∷ (z ++ t3) in
    let h0 = h.1.1 in
    let h1 = right x (y ++ t2) h0 in
    let h2 = (right y t2 h1).1 in (
      tt,
      (
        words d (left x (y ++ t2) h0),
        joined_words ts _ (words e (left y t2 h1)).1
            (joined_words us _ (words g (left z t3 h2)).1 (words k (right z t3 h2).1, tt)),
      ),
    )
words (grammar.start_declare d) h = words d h
words (grammar.start_simple d) h = words d h
words (grammar.switch w o {x = x} d c b {ts = ts} {y = y} e k) h =
    let t2 = tok terminals.CloseBrace k ∷ [] in
    let t1 = tok terminals.Close c ∷ tok terminals.OpenBrace b ∷ (y ++ t2) in
    (tt, (words d (left x t1 h.1.1), (words e (left y t2 (right x t1 h.1.1).1.1)).1))
words (grammar.case w {x = x} d c {y = y} e) h =
    let t1 = tok terminals.Colon c ∷ y in
    (tt, (words d (left x t1 h.1), (words e (right x t1 h.1).1, tt)))
words (grammar.default w c d) h = (tt, (words d h.1.1, tt))
words (grammar.break w s) h = (tt, tt)
words (grammar.continue w s) h = (tt, tt)
words (grammar.return w {ts = ts} {x = x} d s) h = (tt, (words d (left x (tok terminals.Semicolon s ∷ []) h.1)).1)
words (grammar.expr_assign d) h = words d h
words (grammar.expr {x = x} d m {y = y} e) h =
    let t1 = tok terminals.Comma m ∷ y in (tt, (words d (left x t1 h), (words e (right x t1 h).1, tt)))
words (grammar.assign_cond d) h = words d h
words (grammar.assign {x = x} d j m q {y = y} e) h =
    (tt, (words d (left x (tok j m ∷ y) h), (words e (right x (tok j m ∷ y) h).1, tt)))
words (grammar.cond_level d) h = words d h
words (grammar.cond {x = x} d q {y = y} e c {z = z} g) h =
    let t2 = tok terminals.Colon c ∷ z in
    let t1 = tok terminals.Question q ∷ (y ++ t2) in
    let h1 = (right x t1 h).1 in
    (tt, (words d (left x t1 h), (words e (left y t2 h1), (words g (right y t2 h1).1, tt))))
words (grammar.level_cast d) h = words d h
words (grammar.level_next d) h = words d h
words (grammar.level {k = k} {x = x} d j m q {y = y} e) h =
    (level_word k m.word, (words d (left x (tok j m ∷ y) h), (words e (right x (tok j m ∷ y) h).1, tt)))
words (grammar.cast_unary d) h = words d h
words (grammar.cast o {x = x} d c {y = y} e) h =
    let t1 = tok terminals.Close c ∷ y in
    (tt, (words d (left x t1 h.1), (words e (right x t1 h.1).1, tt)))
words (grammar.unary_postfix d) h = words d h
words (grammar.unary_step m d) h = (tt, (words d h.1, tt))
words (grammar.unary_prefix j m q d) h = (tt, (words d h.1, tt))
words (grammar.unary_sizeof w o {x = x} d c) h =
    (tt, (words d (left x (tok terminals.Close c ∷ []) h.1.1), tt))
words (grammar.postfix_primary d) h = words d h
words (grammar.index {x = x} d o {y = y} g c) h =
    let t2 = tok terminals.CloseBracket c ∷ [] in
    let t1 = tok terminals.OpenBracket o ∷ (y ++ t2) in
    (tt, (words d (left x t1 h), (words g (left y t2 (right x t1 h).1), tt)))
words (grammar.step {x = x} d m) h = (tt, (words d (left x (tok terminals.Step m ∷ []) h), tt))
words (grammar.selection {x = x} d p n) h =
    (tt, (words d (left x (tok terminals.Point p ∷ tok terminals.Name n ∷ []) h), tt))
words (grammar.number n) h = (h.0, tt)
words (grammar.truth n) h = (plain_sourced n.word h.0, tt)
words (grammar.variable n) h = (own_name n [] h.0, tt)
words (grammar.call_none n o c) h = (own_name n (o ∷ (c ∷ [])) h.0, tt)
words (grammar.call n o {x = x} d {a = a} {ts = ts} {y = y} e c) h =
    let t2 = tok terminals.Close c ∷ [] in
    let h1 = right x (y ++ t2) h.1.1 in (
      own_name n (o ∷ (a ++ (c ∷ []))) h.0,
      (words d (left x (y ++ t2) h.1.1), (words e (left y t2 h1)).1),
    )
words (grammar.paren o {x = x} d c) h = (tt, (words d (left x (tok terminals.Close c ∷ []) h.1), tt))

all_leaves : (n : ℕ) (tokens : List Token) → TokensPlain tokens → AllLeaves (leaves_of n tokens)
all_leaves n [] h = tt
all_leaves n (t ∷ ts) h = (token_own t.kind t.word h.0, all_leaves (suc n) ts h.1)

-- a unit that tokens spell
pub unit_words : (unit : Syntax) (tokens : List Token) → SpellsUnit unit tokens → TokensPlain tokens → HasWords unit
unit_words unit tokens s h = words s (all_leaves 0 tokens h)

-- ---- expressions and types

word_named : (form : Form) (w : List ℕ) → WordBy form w → NamedBy form w
word_named forms.VariableNode w h = h.0
word_named forms.CallNode w h = h.0
word_named form w h = tt

leaf_sourced : (form : Form) (w : List ℕ) (f l : ℕ) → IsExpressionOf true (node form w f l none) → WordBy form w →
    is_sourced (name_in w) ≡ true
leaf_sourced forms.NumberNode w f l h k = k
leaf_sourced forms.TruthNode w f l h k = k
leaf_sourced forms.VariableNode w f l h k = k.0
leaf_sourced forms.CallNode w f l h k = k.0
leaf_sourced form w f l h k = absurd h

pub type_sourced : (t : Syntax) → IsType t → HasWords t → Sourced t
type_sourced (node forms.TypeNode w f l none) h k = k.0
type_sourced (node forms.TypeNode w f l (more (node forms.SpaceNode w' f' l' none) none)) h k = (tt, (k.1.0.0, tt))
type_sourced t h k = absurd h

mutual
  -- the names of an expression are those of a source
  pub expression_sourced : (t : Syntax) → IsExpressionOf true t → HasWords t → Sourced t
  expression_sourced (node form w f l none) h k = leaf_sourced form w f l h k.0
  expression_sourced (node form w f l (more p ps)) h k = (
    word_named form w k.0,
    operands_sourced (more p ps) (operands_are (node form w f l (more p ps)) h) k.1,
  )

  operands_sourced : (ps : Forest) → AreTypesOr ps → HaveWords ps → AllSourced ps
  operands_sourced none h k = tt
  operands_sourced (more p ps) (inl h, hs) k = (type_sourced p h k.0, operands_sourced ps hs k.1)
  operands_sourced (more p ps) (inr h, hs) k = (expression_sourced p h k.0, operands_sourced ps hs k.1)

-- ---- declared names

declared_own : (form : Form) (w : List ℕ) → WordBy form w → DeclaredBy form w
declared_own forms.DeclaratorNode w h = h
declared_own form w h = tt

mutual
  pub own_words : (t : Syntax) → HasWords t → Own t
  own_words (node form w f l parts) h = (declared_own form w h.0, all_own_words parts h.1)

  pub all_own_words : (ps : Forest) → HaveWords ps → AllOwn ps
  all_own_words none h = tt
  all_own_words (more p ps) h = (own_words p h.0, all_own_words ps h.1)
