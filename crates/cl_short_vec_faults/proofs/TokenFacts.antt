-- A selection or an element begins where its operand does, and the step of a `for` stands behind a token of its own.
use Rattle.std.proofs.Common.{◌≡◌, ℕ, zero, suc, ◌+◌, ◌≤◌, ◌<◌, List, [], ◌∷◌, length, refl, subst, arith}
use Rattle.cl_token.specs.declared.token.Token.{Token}
use Rattle.cl_tree.specs.declared.terminal.Leaf.{Leaf}
use Rattle.cl_tree.specs.declared.terminal.Terminal.TheVariants as terminals
use Rattle.cl_tree.specs.declared.tree.Form.{Form}
use Rattle.cl_tree.specs.declared.tree.Form.TheVariants as forms
use Rattle.cl_tree.specs.Leaves.{leaves_of}
use Rattle.cl_tree.specs.Precedence.{form_of}
use Rattle.cl_tree.specs.Syntax.{Syntax, node, Forest, none, more, joined, first_of, last_of}
use Rattle.cl_tree.specs.Nodes.{tok, forest1, params_node}
use Rattle.cl_tree.specs.Grammar as grammar
use Rattle.cl_tree.specs.Grammar.{Spells, SpellsUnit, Value, one, list}
use Rattle.cl_meaning.specs.Declarations.{parts_of}
use Rattle.cl_short_vec_faults.proofs.Ordered.{From, Inner, from_split, leaves_from, spans}

abbrev pub BeginsWith : Forest → ℕ → Type 0
BeginsWith none first = Unit {0}
BeginsWith (more p ps) first = first ≡ first_of p

-- behind a test and in front of the body of a `for` stands a token of its own
abbrev pub ForApart : Forest → Type 0
ForApart (more d (more b none)) = suc (suc (last_of d)) ≤ first_of b
ForApart (more d (more x (more b none))) = suc (suc (last_of x)) ≤ first_of b
ForApart (more d (more c (more e (more b none)))) =
    (suc (suc (last_of c)) ≤ first_of e) × (suc (suc (last_of e)) ≤ first_of b)
ForApart parts = Unit {0}

abbrev pub FactBy : Form → ℕ → Forest → Type 0
FactBy forms.PostfixNode first parts = BeginsWith parts first
FactBy forms.ForNode first parts = ForApart parts
FactBy form first parts = Unit {0}

abbrev mutual
  pub Facts : Syntax → Type 0
  Facts (node form w f l parts) = FactBy form f parts × AllFacts parts

  pub AllFacts : Forest → Type 0
  AllFacts none = Unit {0}
  AllFacts (more p ps) = Facts p × AllFacts ps

abbrev FactsOf : Value → Type 0
FactsOf (one t) = Facts t
FactsOf (list a ts) = AllFacts ts

all_joined : (ts us : Forest) → AllFacts ts → AllFacts us → AllFacts (joined ts us)
all_joined none us h k = k
all_joined (more p ps) us h k = (h.0, all_joined ps us h.1 k)

level_facts : (k f : ℕ) (parts : Forest) → FactBy (form_of k) f parts
level_facts zero f parts = tt
level_facts (suc zero) f parts = tt
level_facts (suc (suc zero)) f parts = tt
level_facts (suc (suc (suc zero))) f parts = tt
level_facts (suc (suc (suc (suc zero)))) f parts = tt
level_facts (suc (suc (suc (suc (suc zero))))) f parts = tt
level_facts (suc (suc (suc (suc (suc (suc zero)))))) f parts = tt
level_facts (suc (suc (suc (suc (suc (suc (suc zero))))))) f parts = tt
level_facts (suc (suc (suc (suc (suc (suc (suc (suc zero)))))))) f parts = tt
level_facts (suc (suc (suc (suc (suc (suc (suc (suc (suc k))))))))) f parts = tt

for_apart : (d b : Syntax) {ts us : Forest} {y z : List Leaf} →
    Spells (grammar.Maybe grammar.Expr) (list [] ts) y → Spells (grammar.Maybe grammar.Expr) (list [] us) z →
    (n m i j : ℕ) → suc m ≤ i → From n y m → From i z j → last_of d < n → suc j ≤ first_of b →
    ForApart (more d (joined ts (joined us (forest1 b))))
for_apart d b (grammar.maybe_none) (grammar.maybe_none) n m i j l f g x y = omega arith
for_apart d b (grammar.maybe_some h) (grammar.maybe_none) n m i j l f g x y =
    let c = (spans h tt n m f).1 in omega arith
for_apart d b (grammar.maybe_none) (grammar.maybe_some h) n m i j l f g x y =
    let c = (spans h tt i j g).1 in omega arith
for_apart d b (grammar.maybe_some h) (grammar.maybe_some k) n m i j l f g x y =
    let c = (spans h tt n m f).1 in let e = spans k tt i j g in let p = e.0 in let q = e.1 in (omega arith, omega arith)

pub facts : {s : grammar.Sort} {v : Value} {x : List Leaf} → Spells s v x → Inner s → (n m : ℕ) → From n x m → FactsOf v
facts grammar.maybe_none i n m f =
    tt
facts (grammar.maybe_some {t = t} {x = x} h) i n m f =
    (facts h i n m f, tt)
facts grammar.many_end i n m f =
    tt
facts (grammar.many_more {a = a} {ts = ts} {x = x} h {b = b} {us = us} {y = y} k) i n m f =
    let q = from_split x y n m f in
    let c = facts h i n q.0 q.1 in
    let d = facts k i q.0 m q.2 in
    all_joined ts us c d
facts (grammar.just {t = t} {x = x} h) i n m f =
    (facts h i n m f, tt)
facts (grammar.comma k {t = t} {x = x} h) i n m f =
    (facts h i (suc n) m f.1, tt)
facts (grammar.unit h) i n m f = absurd i
facts (grammar.item_declare h) i n m f = facts h tt n m f
facts (grammar.function {heads = hs} {x = x} hh {r = r} {y = y} hr k o {own = own} {ts = ts} {z = z} hp c {b = b}
    {w = w} hb) i n m f =
    let q = from_split x _ n m f in
    let u = from_split y _ q.0 m q.2 in
    let v = from_split z (tok terminals.Close c ∷ w) (suc (suc u.0)) m u.2.1.1 in
    let H = facts hh tt n q.0 q.1 in
    let R = facts hr tt q.0 u.0 u.1 in
    let A = facts hp tt (suc (suc u.0)) v.0 v.1 in
    let B = facts hb tt (suc v.0) m v.2.1 in
    (tt, all_joined hs (more r (more (params_node own ts c) (more b none))) H (R, ((tt, A), (B, tt))))
facts (grammar.prototype {heads = hs} {x = x} hh {r = r} {y = y} hr k o {own = own} {ts = ts} {z = z} hp c d) i n m f =
    let q = from_split x _ n m f in
    let u = from_split y _ q.0 m q.2 in
    let v = from_split z (tok terminals.Close c ∷ tok terminals.Semicolon d ∷ []) (suc (suc u.0)) m u.2.1.1 in
    let H = facts hh tt n q.0 q.1 in
    let R = facts hr tt q.0 u.0 u.1 in
    let A = facts hp tt (suc (suc u.0)) v.0 v.1 in
    (tt, all_joined hs (more r (more (params_node own ts c) none)) H (R, ((tt, A), tt)))
facts (grammar.head_word k) i n m f =
    (tt, tt)
facts (grammar.head_attribute {t = t} h) i n m f =
    let A = facts h tt n m f in
    (tt, (A, tt))
facts (grammar.attribute w o p k q {a = a} {x = x} ha j {b = b} {y = y} hb l {c = c} {z = z} hc e g d) i n m f =
    let r = from_split x _ (suc (suc (suc (suc (suc n))))) m f.1.1.1.1.1 in
    let u = from_split y _ (suc r.0) m r.2.1 in
    let v = from_split z _ (suc u.0) m u.2.1 in
    let A = facts ha tt (suc (suc (suc (suc (suc n))))) r.0 r.1 in
    let B = facts hb tt (suc r.0) u.0 u.1 in
    let C = facts hc tt (suc u.0) v.0 v.1 in
    (tt, (A, (B, (C, tt))))
facts (grammar.result_void k) i n m f =
    (tt, tt)
facts (grammar.result {t = t} h) i n m f =
    let A = facts h tt n m f in
    (tt, (A, tt))
facts grammar.params_none i n m f =
    tt
facts (grammar.params_void k) i n m f =
    tt
facts (grammar.params {t = t} {x = x} h {a = a} {ts = ts} {y = y} k) i n m f =
    let q = from_split x y n m f in
    let T = facts h tt n q.0 q.1 in
    let S = facts k tt q.0 m q.2 in
    (T, S)
facts (grammar.param {t = t} {x = x} h {ss = ss} {y = y} k o) i n m f =
    let q = from_split x _ n m f in
    let u = from_split y _ q.0 m q.2 in
    let T = facts h tt n q.0 q.1 in
    let S = facts k tt q.0 u.0 u.1 in
    (tt, (T, S))
facts (grammar.type_plain {a = a} {x = x} ha {d = d} {y = y} hd {c = c} {z = z} hc) i n m f =
    (tt, tt)
facts (grammar.type_front {a = a} {x = x} ha {s = s} {u = y} hs {b = b} {v = z} hb {d = d} {y = w} hd {c = c} {z = v}
    hc) i n m f =
    let q = from_split x _ n m f in
    let r = from_split y _ q.0 m q.2 in
    let S = facts hs tt q.0 r.0 r.1 in
    (tt, (S, tt))
facts (grammar.type_behind {a = a} {x = x} ha {d = d} {y = y} hd {b = b} {v = z} hb {s = s} {u = w} hs {c = c} {z = v}
    hc) i n m f =
    let q = from_split x _ n m f in
    let r = from_split y _ q.0 m q.2 in
    let t = from_split z _ r.0 m r.2 in
    let u = from_split w v t.0 m t.2 in
    let S = facts hs tt t.0 u.0 u.1 in
    (tt, (S, tt))
facts (grammar.qualifier j k e) i n m f =
    tt
facts (grammar.space k) i n m f =
    (tt, tt)
facts (grammar.base_word k) i n m f =
    tt
facts (grammar.base_sign k) i n m f =
    tt
facts (grammar.base_core h) i n m f =
    tt
facts (grammar.base_sign_core k {a = a} {x = x} h) i n m f =
    tt
facts (grammar.core_char k) i n m f =
    tt
facts (grammar.core_int k) i n m f =
    tt
facts (grammar.core_length k) i n m f =
    tt
facts (grammar.core_length_int k o) i n m f =
    tt
facts (grammar.star o {a = a} {x = x} h) i n m f =
    (tt, tt)
facts (grammar.declare {t = t} {x = x} h {d = d} {y = y} j {a = a} {ds = ds} {z = z} k s) i n m f =
    let q = from_split x _ n m f in
    let u = from_split y _ q.0 m q.2 in
    let v = from_split z _ u.0 m u.2 in
    let T = facts h tt n q.0 q.1 in
    let D = facts j tt q.0 u.0 u.1 in
    let S = facts k tt u.0 v.0 v.1 in
    (tt, (T, (D, S)))
facts (grammar.declarator {ss = ss} {x = x} h k {a = a} {ds = ds} {y = y} j) i n m f =
    let q = from_split x _ n m f in
    let H = facts h tt n q.0 q.1 in
    let D = facts j tt (suc q.0) m q.2.1 in
    (tt, all_joined ss ds H D)
facts (grammar.declarator_set {ss = ss} {x = x} h k {a = a} {ds = ds} {y = y} j e {i = t} {z = z} g) i n m f =
    let q = from_split x _ n m f in
    let u = from_split y _ (suc q.0) m q.2.1 in
    let H = facts h tt n q.0 q.1 in
    let D = facts j tt (suc q.0) u.0 u.1 in
    let T = facts g tt (suc u.0) m u.2.1 in
    (tt, all_joined ss (joined ds (forest1 t)) H (all_joined ds (forest1 t) D (T, tt)))
facts (grammar.dimension o {ts = ts} {x = x} h c) i n m f =
    let q = from_split x _ (suc n) m f.1 in
    let A = facts h tt (suc n) q.0 q.1 in
    A
facts (grammar.init_assign h) i n m f = facts h tt n m f
facts (grammar.init_list h) i n m f = facts h tt n m f
facts (grammar.initializers o {t = t} {x = x} h {a = a} {ts = ts} {y = y} k c) i n m f =
    let q = from_split x _ (suc n) m f.1 in
    let u = from_split y _ q.0 m q.2 in
    let T = facts h tt (suc n) q.0 q.1 in
    let S = facts k tt q.0 u.0 u.1 in
    (tt, (T, S))
facts grammar.elements_end i n m f =
    tt
facts (grammar.elements_comma k) i n m f =
    tt
facts (grammar.elements_more k {t = t} {x = x} h {a = a} {ts = ts} {y = y} j) i n m f =
    let q = from_split x y (suc n) m f.1 in
    let T = facts h tt (suc n) q.0 q.1 in
    let S = facts j tt q.0 m q.2 in
    (T, S)
facts (grammar.block o {ts = ts} {x = x} h c) i n m f =
    let q = from_split x _ (suc n) m f.1 in
    let A = facts h tt (suc n) q.0 q.1 in
    (tt, A)
facts (grammar.line_declare h) i n m f = facts h tt n m f
facts (grammar.line_statement h) i n m f = facts h tt n m f
facts (grammar.statement_block h) i n m f = facts h tt n m f
facts (grammar.statement_simple h) i n m f = facts h tt n m f
facts (grammar.simple {ts = ts} {x = x} h d) i n m f =
    let q = from_split x _ n m f in
    let A = facts h tt n q.0 q.1 in
    (tt, A)
facts (grammar.if_short j o {e = t} {x = x} h c {s = b} {y = y} k) i n m f =
    let q = from_split x _ (suc (suc n)) m f.1.1 in
    let T = facts h tt (suc (suc n)) q.0 q.1 in
    let B = facts k tt (suc q.0) m q.2.1 in
    (tt, (T, (B, tt)))
facts (grammar.if_long j o {e = t} {x = x} h c {s = b} {y = y} k cl d {u = w} {z = z} g) i n m f =
    let q = from_split x _ (suc (suc n)) m f.1.1 in
    let r = from_split y _ (suc q.0) m q.2.1 in
    let T = facts h tt (suc (suc n)) q.0 q.1 in
    let B = facts k tt (suc q.0) r.0 r.1 in
    let W = facts g tt (suc r.0) m r.2.1 in
    (tt, (T, (B, (W, tt))))
facts (grammar.while w o {e = t} {x = x} h c {s = b} {y = y} k) i n m f =
    let q = from_split x _ (suc (suc n)) m f.1.1 in
    let T = facts h tt (suc (suc n)) q.0 q.1 in
    let B = facts k tt (suc q.0) m q.2.1 in
    (tt, (T, (B, tt)))
facts (grammar.do_while d {s = b} {x = x} k w o {e = t} {y = y} h c j) i n m f =
    let q = from_split x _ (suc n) m f.1 in
    let r = from_split y _ (suc (suc q.0)) m q.2.1.1 in
    let B = facts k tt (suc n) q.0 q.1 in
    let T = facts h tt (suc (suc q.0)) r.0 r.1 in
    (tt, (B, (T, tt)))
facts (grammar.for j o {d = d} {x = x} h {ts = ts} {y = y} k s' {us = us} {z = z} g c {b = b} {w = w} l) i n m f =
    let q = from_split x _ (suc (suc n)) m f.1.1 in
    let r = from_split y _ q.0 m q.2 in
    let u = from_split z _ (suc r.0) m r.2.1 in
    let D = facts h tt (suc (suc n)) q.0 q.1 in
    let T = facts k tt q.0 r.0 r.1 in
    let U = facts g tt (suc r.0) u.0 u.1 in
    let B = facts l tt (suc u.0) m u.2.1 in (
      for_apart d b k g q.0 r.0 (suc r.0) u.0 (omega arith) r.1 u.1 (spans h tt (suc (suc n)) q.0 q.1).1
          (spans l tt (suc u.0) m u.2.1).0,
      (D, all_joined ts (joined us (forest1 b)) T (all_joined us (forest1 b) U (B, tt))),
    )
facts (grammar.start_declare h) i n m f = facts h tt n m f
facts (grammar.start_simple h) i n m f = facts h tt n m f
facts (grammar.switch w o {e = t} {x = x} h c b {ts = ts} {y = y} k d) i n m f =
    let q = from_split x _ (suc (suc n)) m f.1.1 in
    let r = from_split y _ (suc (suc q.0)) m q.2.1.1 in
    let T = facts h tt (suc (suc n)) q.0 q.1 in
    let S = facts k tt (suc (suc q.0)) r.0 r.1 in
    (tt, (T, S))
facts (grammar.case w {e = t} {x = x} h c {s = b} {y = y} k) i n m f =
    let q = from_split x _ (suc n) m f.1 in
    let T = facts h tt (suc n) q.0 q.1 in
    let B = facts k tt (suc q.0) m q.2.1 in
    (tt, (T, (B, tt)))
facts (grammar.default w c {s = b} {y = y} k) i n m f =
    let B = facts k tt (suc (suc n)) m f.1.1 in
    (tt, (B, tt))
facts (grammar.break w d) i n m f =
    (tt, tt)
facts (grammar.continue w d) i n m f =
    (tt, tt)
facts (grammar.return w {ts = ts} {x = x} h d) i n m f =
    let q = from_split x _ (suc n) m f.1 in
    let A = facts h tt (suc n) q.0 q.1 in
    (tt, A)
facts (grammar.expr_assign h) i n m f = facts h tt n m f
facts (grammar.expr {l = a} {x = x} h k {r = b} {y = y} j) i n m f =
    let q = from_split x _ n m f in
    (tt, (facts h tt n q.0 q.1, (facts j tt (suc q.0) m q.2.1, tt)))
facts (grammar.assign_cond h) i n m f = facts h tt n m f
facts (grammar.assign {l = a} {x = x} h o k t {r = b} {y = y} j) i n m f =
    let q = from_split x _ n m f in
    (tt, (facts h tt n q.0 q.1, (facts j tt (suc q.0) m q.2.1, tt)))
facts (grammar.cond_level h) i n m f = facts h tt n m f
facts (grammar.cond {t = a} {x = x} h k {a = b} {y = y} j l {b = c} {z = z} g) i n m f =
    let q = from_split x _ n m f in
    let r = from_split y _ (suc q.0) m q.2.1 in
    let A = facts h tt n q.0 q.1 in
    let B = facts j tt (suc q.0) r.0 r.1 in
    let C = facts g tt (suc r.0) m r.2.1 in
    (tt, (A, (B, (C, tt))))
facts (grammar.level_cast h) i n m f = facts h tt n m f
facts (grammar.level_next h) i n m f = facts h tt n m f
facts (grammar.level {k = K} {l = a} {x = x} h o k t {r = b} {y = y} j) i n m f =
    let q = from_split x _ n m f in
    (level_facts K (first_of a) (more a (more b none)), (facts h tt n q.0 q.1, (facts j tt (suc q.0) m q.2.1, tt)))
facts (grammar.cast_unary h) i n m f = facts h tt n m f
facts (grammar.cast o {t = t} {x = x} h c {e = b} {y = y} k) i n m f =
    let q = from_split x _ (suc n) m f.1 in
    let T = facts h tt (suc n) q.0 q.1 in
    let B = facts k tt (suc q.0) m q.2.1 in
    (tt, (T, (B, tt)))
facts (grammar.unary_postfix h) i n m f = facts h tt n m f
facts (grammar.unary_step k {t = t} h) i n m f =
    let T = facts h tt (suc n) m f.1 in
    (tt, (T, tt))
facts (grammar.unary_prefix j k p {t = t} h) i n m f =
    let T = facts h tt (suc n) m f.1 in
    (tt, (T, tt))
facts (grammar.unary_sizeof w o {t = t} {x = x} h c) i n m f =
    let q = from_split x _ (suc (suc n)) m f.1.1 in
    let T = facts h tt (suc (suc n)) q.0 q.1 in
    (tt, (T, tt))
facts (grammar.postfix_primary h) i n m f = facts h tt n m f
facts (grammar.index {l = a} {x = x} h o {e = b} {y = y} k c) i n m f =
    let q = from_split x _ n m f in
    let r = from_split y _ (suc q.0) m q.2.1 in
    let A = facts h tt n q.0 q.1 in
    let B = facts k tt (suc q.0) r.0 r.1 in
    (refl, (A, (B, tt)))
facts (grammar.step {l = a} {x = x} h k) i n m f =
    let q = from_split x _ n m f in
    let A = facts h tt n q.0 q.1 in
    (refl, (A, tt))
facts (grammar.selection {l = a} {x = x} h d k) i n m f =
    let q = from_split x _ n m f in
    let A = facts h tt n q.0 q.1 in
    (refl, (A, tt))
facts (grammar.number k) i n m f =
    (tt, tt)
facts (grammar.truth k) i n m f =
    (tt, tt)
facts (grammar.variable k) i n m f =
    (tt, tt)
facts (grammar.call_none k o c) i n m f =
    (tt, tt)
facts (grammar.call k o {t = t} {x = x} h {a = a} {ts = ts} {y = y} l c) i n m f =
    let q = from_split x _ (suc (suc n)) m f.1.1 in
    let r = from_split y _ q.0 m q.2 in
    let T = facts h tt (suc (suc n)) q.0 q.1 in
    let S = facts l tt q.0 r.0 r.1 in
    (tt, (T, S))
facts (grammar.paren o {t = t} {x = x} h c) i n m f =
    let q = from_split x _ (suc n) m f.1 in
    let T = facts h tt (suc n) q.0 q.1 in
    (tt, (T, tt))

-- of the items of a unit that tokens spell
pub unit_facts : (unit : Syntax) (tokens : List Token) → SpellsUnit unit tokens → AllFacts (parts_of unit)
unit_facts unit tokens (grammar.unit h) = facts h tt 0 (length tokens) (subst (From 0 (leaves_of 0 tokens))
    (let q : 0 + length tokens ≡ length tokens = omega arith in q) (leaves_from tokens 0))
