-- What the grammar spells as a unit is read.
use Rattle.std.proofs.Common.{sym, ◌≡◌, ℕ, zero, suc, ◌<◌, ◌≤◌, Bool, true, false, List, [], ◌∷◌, ◌++◌, length, refl}
use Rattle.std.proofs.Common.{ap, ◌∙◌, append_assoc, arith}
use Rattle.std.proofs.lemmas.List.{append-nil}
use Rattle.cl_tree.specs.declared.terminal.Terminal.{Terminal}
use Rattle.cl_tree.specs.declared.terminal.Terminal.TheVariants as terminals
use Rattle.cl_tree.specs.declared.terminal.Leaf.{Leaf}
use Rattle.cl_tree.specs.Syntax.{Syntax, Forest, none, more, nesting, deepest}
use Rattle.cl_tree.specs.Nodes.{Spot, tok, declare_node, params_node, function_node, prototype_node, unit_node}
use Rattle.cl_tree.specs.Grammar as grammar
use Rattle.cl_tree.specs.Grammar.{Source, Item, Head, Attribute, Result, Params, Param, TypeName, Star, Declare}
use Rattle.cl_tree.specs.Grammar.{Declarator, Dimension, Block, Many, Just, Comma, one, list, Spells}
use Rattle.cl_read.specs.Starts.{starts_type, starts_head}
use Rattle.cl_read.specs.Reading.{Out, Got, Wrong, Deep, after, Reader, done, begins, is, Listing, appended, all_of}
use Rattle.cl_read.specs.Reading.{each, Readers, readers, attribute_of, head_of, param_of, params_of, callable, named}
use Rattle.cl_read.specs.Reading.{result_of, typed, headed, item_of, unit_of}
use Rattle.cl_read.proofs.Tails.{excluded, not_begun}
use Rattle.cl_read.proofs.First.{any, head_first, type_first, param_first, item_first}
use Rattle.cl_read.proofs.ListRules.{Shrinks, all_stops, all_goes, onward}
use Rattle.cl_read.proofs.Sound.{AllGood}
use Rattle.cl_read.proofs.SoundStatements.{all_good}
use Rattle.cl_read.proofs.SoundUnit.{heads_shrink, params_shrink, items_shrink}
use Rattle.cl_read.proofs.Follow.{Behind, behind_not, AllFull, onto}
use Rattle.cl_read.proofs.Complete.{deepest_joined, listing, many_read, commas_read, declared_reads}
use Rattle.cl_read.proofs.Complete.{declared_set_reads, behind_declarator, behind_type, declare_rest_reads}
use Rattle.cl_read.proofs.CompleteStatements.{all_full}

-- a type nests no deeper than two
type_flat : {t : Syntax} {x : List Leaf} → Spells TypeName (one t) x → nesting t ≤ 2
type_flat (grammar.type_plain a d c) = omega arith
type_flat (grammar.type_front a (grammar.space m) b d c) = omega arith
type_flat (grammar.type_behind a d b (grammar.space m) c) = omega arith

type_no_head : (j : Terminal) → starts_type j ≡ true → starts_head j ≡ false
type_no_head terminals.HeadWord e = absurd cc
type_no_head terminals.Attribute e = absurd cc
type_no_head _ e = refl

dimensions_no_open : {a : List Spot} {ts : Forest} {x : List Leaf} → Spells (Many Dimension) (list a ts) x →
    (rest : List Leaf) → begins (is terminals.Open) rest ≡ false → begins (is terminals.Open) (x ++ rest) ≡ false
dimensions_no_open grammar.many_end rest b = b
dimensions_no_open (grammar.many_more (grammar.dimension o h c) i) rest b = refl

module _ (n : ℕ) (one' two three : Readers) (g : AllGood one') (h : AllGood two) (k : AllGood three)
    (f1 : AllFull one' (suc n)) (f2 : AllFull two (suc (suc n))) (f3 : AllFull three (suc (suc (suc n)))) where
  attribute_reads : {t : Syntax} {x : List Leaf} → Spells Attribute (one t) x → nesting t ≤ suc (suc n) →
      (rest : List Leaf) → attribute_of one' two three (x ++ rest) ≡ Got t rest
  unfolding attribute_of
  attribute_reads (grammar.attribute w o p m q {x = x} ha j {y = y} hb i {z = z} hc e f s) d rest =
      let ends : List Leaf = tok terminals.Close e ∷ tok terminals.Close f ∷ tok terminals.Close s ∷ rest in
      rw (
        append_assoc x (tok terminals.Comma j ∷
            (y ++ (tok terminals.Comma i ∷
            (z ++ (tok terminals.Close e ∷ tok terminals.Close f ∷ tok terminals.Close s ∷ []))))) rest,
        append_assoc y (tok terminals.Comma i ∷
            (z ++ (tok terminals.Close e ∷ tok terminals.Close f ∷ tok terminals.Close s ∷ []))) rest,
        append_assoc z (tok terminals.Close e ∷ tok terminals.Close f ∷ tok terminals.Close s ∷ []) rest,
      )
      (onto _ (f1.cond' ha (omega arith) (tok terminals.Comma j ∷
      (y ++ (tok terminals.Comma i ∷
      (z ++ (tok terminals.Close e ∷ tok terminals.Close f ∷ tok terminals.Close s ∷ rest))))) refl)
      (onto _ (f1.cond' hb (omega arith) (tok terminals.Comma i ∷
      (z ++ (tok terminals.Close e ∷ tok terminals.Close f ∷ tok terminals.Close s ∷ rest))) refl)
      (onto _ (f1.cond' hc (omega arith) (tok terminals.Close e ∷ tok terminals.Close f ∷ tok terminals.Close s ∷
      rest) refl) refl)))

  head_reads : {t : Syntax} {x : List Leaf} → Spells Head (one t) x → nesting t ≤ suc (suc (suc n)) →
      (rest : List Leaf) → head_of one' two three (x ++ rest) ≡ Got t rest
  unfolding head_of
  head_reads (grammar.head_word m) d rest = refl
  head_reads (grammar.head_attribute (grammar.attribute w o p m q ha j hb i hc e f s)) d rest =
      onto _ (attribute_reads (grammar.attribute w o p m q ha j hb i hc e f s) (omega arith) rest) refl

  each_head_reads : (a : List Spot) (ts : Forest) (x : List Leaf) → Spells (Just Head) (list a ts) x →
      deepest ts ≤ suc (suc (suc n)) → (rest : List Leaf) → Unit {0} →
      each (head_of one' two three) (x ++ rest) ≡ Got (true, listing a ts) rest
  each_head_reads a ts x (grammar.just i) d rest u = onto _ (head_reads i (omega arith) rest) refl

  head_begins : (a : List Spot) (ts : Forest) (x : List Leaf) → Spells (Just Head) (list a ts) x →
      (rest : List Leaf) → begins starts_head (x ++ rest) ≡ true
  head_begins a ts x (grammar.just i) rest = head_first i rest

  heads_read : {a : List Spot} {ts : Forest} {x : List Leaf} → Spells (Many (Just Head)) (list a ts) x →
      deepest ts ≤ suc (suc (suc n)) → (rest : List Leaf) → begins starts_head rest ≡ false →
      all_of starts_head (each (head_of one' two three)) (x ++ rest) ≡ Got (listing a ts) rest
  heads_read i d rest b = many_read starts_head (each (head_of one' two three)) (Just Head)
      (heads_shrink one' two three g h k) (suc (suc (suc n))) (λ r. Unit {0}) each_head_reads head_begins
      (λ a ts x i r. tt) i d rest tt b

  param_reads : {t : Syntax} {x : List Leaf} → Spells Param (one t) x → nesting t ≤ suc (suc n) → (rest : List Leaf) →
      param_of one' two three (x ++ rest) ≡ Got t rest
  unfolding param_of
  param_reads (grammar.param {x = x} i grammar.maybe_none m) d rest =
      rw (append_assoc x (tok terminals.Name m ∷ []) rest)
      (onto _ (f1.type' i (omega arith) (tok terminals.Name m ∷ rest) refl) refl)
  param_reads (grammar.param {x = x} i (grammar.maybe_some (grammar.star o {x = y} j)) m) d rest =
      rw (
        append_assoc x (tok terminals.Star o ∷ (y ++ (tok terminals.Name m ∷ []))) rest,
        append_assoc y (tok terminals.Name m ∷ []) rest,
      )
      (onto _ (f1.type' i (omega arith) (tok terminals.Star o ∷ (y ++ (tok terminals.Name m ∷ rest))) refl)
      (onto _ (onto _ (f1.star (grammar.star o j) (omega arith) (tok terminals.Name m ∷ rest) refl) refl) refl))

  params_read : {own : List Spot} {ts : Forest} {z : List Leaf} → Spells Params (list own ts) z →
      deepest ts ≤ suc (suc n) → (c : Spot) (rest : List Leaf) →
      params_of one' two three (z ++ (tok terminals.Close c ∷ rest)) ≡
      Got (listing own ts) (tok terminals.Close c ∷ rest)
  unfolding params_of
  params_read grammar.params_none d c rest = refl
  params_read (grammar.params_void m) d c rest = refl
  params_read (grammar.params {x = x} i {y = y} j) d c rest =
      let first : begins starts_type (x ++ (y ++ (tok terminals.Close c ∷ rest))) ≡ true =
      param_first i (y ++ (tok terminals.Close c ∷ rest)) in
      let a : begins (is terminals.Close) (x ++ (y ++ (tok terminals.Close c ∷ rest))) ≡ false =
      not_begun starts_type terminals.Close refl (x ++ (y ++ (tok terminals.Close c ∷ rest))) first in
      let b : begins (is terminals.Void) (x ++ (y ++ (tok terminals.Close c ∷ rest))) ≡ false =
      not_begun starts_type terminals.Void refl (x ++ (y ++ (tok terminals.Close c ∷ rest))) first in
      rw (append_assoc x y (tok terminals.Close c ∷ rest), a, b)
      (onto _ (param_reads i (omega arith) (y ++ (tok terminals.Close c ∷ rest)))
      (onto _ (commas_read (param_of one' two three) Param (params_shrink one' two three g h k) (suc (suc n))
      (λ t x i d r b. param_reads i d r) j (omega arith) (tok terminals.Close c ∷ rest) refl refl) refl))

  prototype_reads : (heads : Forest) (r : Syntax) (m o : Spot) {own : List Spot} {ts : Forest} {z : List Leaf} →
      Spells Params (list own ts) z → deepest ts ≤ suc (suc n) → (c s : Spot) (rest : List Leaf) →
      callable one' two three heads r m o (z ++ (tok terminals.Close c ∷ tok terminals.Semicolon s ∷ rest)) ≡
      Got (prototype_node heads r m o (params_node own ts c) c s) rest
  unfolding callable
  prototype_reads heads r m o i d c s rest = onto _ (params_read i d c (tok terminals.Semicolon s ∷ rest)) refl

  function_reads : (heads : Forest) (r : Syntax) (m o : Spot) {own : List Spot} {ts : Forest} {z : List Leaf} →
      Spells Params (list own ts) z → deepest ts ≤ suc (suc n) → (c : Spot) {b : Syntax} {w : List Leaf} →
      Spells Block (one b) w → nesting b ≤ suc (suc (suc n)) → (rest : List Leaf) →
      callable one' two three heads r m o (z ++ (tok terminals.Close c ∷ (w ++ rest))) ≡
      Got (function_node heads r m o (params_node own ts c) c b) rest
  unfolding callable
  function_reads heads r m o i d c (grammar.block p {x = x} j e) l rest =
      onto _ (params_read i d c (tok terminals.OpenBrace p ∷ ((x ++ (tok terminals.CloseBrace e ∷ [])) ++ rest)))
      (onto _ (f3.block (grammar.block p j e) l rest) refl)

  result_reads : {r : Syntax} {y : List Leaf} → Spells Result (one r) y → nesting r ≤ suc (suc (suc n)) →
      (m : Spot) (rest : List Leaf) → result_of one' two three (y ++ (tok terminals.Name m ∷ rest)) ≡
      Got r (tok terminals.Name m ∷ rest)
  unfolding result_of
  result_reads (grammar.result_void v) d m rest = refl
  result_reads (grammar.result {x = x} i) d m rest =
      let a : begins (is terminals.Void) (x ++ (tok terminals.Name m ∷ rest)) ≡ false =
      not_begun starts_type terminals.Void refl (x ++ (tok terminals.Name m ∷ rest))
      (type_first i (tok terminals.Name m ∷ rest)) in
      rw a (onto _ (f2.type' i (omega arith) (tok terminals.Name m ∷ rest) refl) refl)

  result_no_head : {r : Syntax} {y : List Leaf} → Spells Result (one r) y → (rest : List Leaf) →
      begins starts_head (y ++ rest) ≡ false
  result_no_head (grammar.result_void v) rest = refl
  result_no_head (grammar.result {x = x} i) rest =
      excluded starts_type starts_head type_no_head (x ++ rest) (type_first i rest)

  -- an item up to the parenthesis of its parameters
  begun_reads : {a : List Spot} {heads : Forest} {x : List Leaf} → Spells (Many (Just Head)) (list a heads) x →
      deepest heads ≤ suc (suc (suc n)) → {r : Syntax} {y : List Leaf} → Spells Result (one r) y →
      nesting r ≤ suc (suc (suc n)) → (m o : Spot) (tail : List Leaf) (t : Syntax) (rest : List Leaf) →
      callable one' two three heads r m o tail ≡ Got t rest →
      item_of one' two three (x ++ (y ++ (tok terminals.Name m ∷ tok terminals.Open o ∷ tail))) ≡ Got t rest
  unfolding item_of headed named typed
  begun_reads grammar.many_end d (grammar.result_void v) e m o tail t rest q = q
  begun_reads grammar.many_end d (grammar.result {x = y} i) e m o tail t rest q =
      let first : begins starts_type (y ++ (tok terminals.Name m ∷ tok terminals.Open o ∷ tail)) ≡ true =
      type_first i (tok terminals.Name m ∷ tok terminals.Open o ∷ tail) in
      let a : begins starts_head (y ++ (tok terminals.Name m ∷ tok terminals.Open o ∷ tail)) ≡ false =
      excluded starts_type starts_head type_no_head (y ++ (tok terminals.Name m ∷ tok terminals.Open o ∷ tail))
      first in
      let b : begins (is terminals.Void) (y ++ (tok terminals.Name m ∷ tok terminals.Open o ∷ tail)) ≡ false =
      not_begun starts_type terminals.Void refl (y ++ (tok terminals.Name m ∷ tok terminals.Open o ∷ tail)) first in
      rw (a, b) (onto _ (f2.type' i (omega arith) (tok terminals.Name m ∷ tok terminals.Open o ∷ tail) refl) q)
  begun_reads (grammar.many_more {ts = hs} {x = x} (grammar.just i) {us = us} {y = z} j) d {y = y} l e m o tail t rest
      q =
      let first : begins starts_head ((x ++ z) ++ (y ++ (tok terminals.Name m ∷ tok terminals.Open o ∷ tail))) ≡
      true = rw append_assoc (head_first i (z ++ (y ++ (tok terminals.Name m ∷ tok terminals.Open o ∷ tail)))) in
      rw first (onto _ (heads_read (grammar.many_more (grammar.just i) j) d
      (y ++ (tok terminals.Name m ∷ tok terminals.Open o ∷ tail))
      (result_no_head l (tok terminals.Name m ∷ tok terminals.Open o ∷ tail)))
      (onto _ (result_reads l e m (tok terminals.Open o ∷ tail)) q))

  -- a declaration, behind its type
  typed_reads : (t : Syntax) {d : Syntax} {y : List Leaf} → Spells Declarator (one d) y →
      nesting d ≤ suc (suc (suc n)) → {a : List Spot} {ds : Forest} {z : List Leaf} →
      Spells (Many (Comma Declarator)) (list a ds) z → deepest ds ≤ suc (suc (suc n)) →
      (s : Spot) (rest : List Leaf) → (u : Syntax) → u ≡ declare_node t d a ds s →
      typed one' two three t (y ++ (z ++ (tok terminals.Semicolon s ∷ rest))) ≡ Got u rest
  unfolding typed
  typed_reads t (grammar.declarator grammar.maybe_none m {y = y} i) e {z = z} j c s rest u q =
      let b : Behind 12 (z ++ (tok terminals.Semicolon s ∷ rest)) =
      behind_declarator (suc (suc (suc n))) three k f3 j s rest in
      let no_open : begins (is terminals.Open) (y ++ (z ++ (tok terminals.Semicolon s ∷ rest))) ≡ false =
      dimensions_no_open i (z ++ (tok terminals.Semicolon s ∷ rest))
      (behind_not 12 terminals.Open (z ++ (tok terminals.Semicolon s ∷ rest)) refl b) in
      rw (q, no_open) (onto _ (declared_reads (suc (suc n)) two h f2 none m i (omega arith)
      (z ++ (tok terminals.Semicolon s ∷ rest)) b) (declare_rest_reads (suc (suc (suc n))) three k f3 t _ j c
      s rest))
  typed_reads t (grammar.declarator (grammar.maybe_some (grammar.star o {x = x} l)) m {y = y} i) e {z = z} j c s rest
      u q =
      let b : Behind 12 (z ++ (tok terminals.Semicolon s ∷ rest)) =
      behind_declarator (suc (suc (suc n))) three k f3 j s rest in
      rw q (onto _ (f3.declarator (grammar.declarator (grammar.maybe_some (grammar.star o l)) m i) e
      (z ++ (tok terminals.Semicolon s ∷ rest)) b) (declare_rest_reads (suc (suc (suc n))) three k f3 t _ j c
      s rest))
  typed_reads t (grammar.declarator_set grammar.maybe_none m {ds = ds} {y = y} i p {i = v} {z = w} l) e {z = z} j c s
      rest u q =
      let b : Behind 12 (z ++ (tok terminals.Semicolon s ∷ rest)) =
      behind_declarator (suc (suc (suc n))) three k f3 j s rest in
      let no_open : begins (is terminals.Open)
      (y ++ (tok terminals.Equals p ∷ (w ++ (z ++ (tok terminals.Semicolon s ∷ rest))))) ≡ false =
      dimensions_no_open i (tok terminals.Equals p ∷ (w ++ (z ++ (tok terminals.Semicolon s ∷ rest)))) refl in
      rw (q, append_assoc y (tok terminals.Equals p ∷ w) (z ++ (tok terminals.Semicolon s ∷ rest)), no_open)
      (onto _ (declared_set_reads (suc (suc n)) two h f2 none m i (omega (arith, deepest_joined ds (more v none))) p l
      (omega (arith, deepest_joined ds (more v none))) (z ++ (tok terminals.Semicolon s ∷ rest)) b)
      (declare_rest_reads (suc (suc (suc n))) three k f3 t _ j c s rest))
  typed_reads t (grammar.declarator_set (grammar.maybe_some (grammar.star o {x = x} r)) m i p l) e {z = z} j c s rest
      u q =
      let b : Behind 12 (z ++ (tok terminals.Semicolon s ∷ rest)) =
      behind_declarator (suc (suc (suc n))) three k f3 j s rest in
      rw q (onto _ (f3.declarator (grammar.declarator_set (grammar.maybe_some (grammar.star o r)) m i p l) e
      (z ++ (tok terminals.Semicolon s ∷ rest)) b) (declare_rest_reads (suc (suc (suc n))) three k f3 t _ j c
      s rest))

  declaration_reads : {t : Syntax} {x : List Leaf} → Spells Declare (one t) x → nesting t ≤ suc (suc (suc (suc n))) →
      (rest : List Leaf) → item_of one' two three (x ++ rest) ≡ Got t rest
  unfolding item_of
  declaration_reads (grammar.declare {t = t} {x = x} i {d = e} {y = y} j {z = z} l s) d rest =
      let first : begins starts_type (x ++ (y ++ (z ++ (tok terminals.Semicolon s ∷ rest)))) ≡ true =
      type_first i (y ++ (z ++ (tok terminals.Semicolon s ∷ rest))) in
      let a : begins starts_head (x ++ (y ++ (z ++ (tok terminals.Semicolon s ∷ rest)))) ≡ false =
      excluded starts_type starts_head type_no_head (x ++ (y ++ (z ++ (tok terminals.Semicolon s ∷ rest)))) first in
      let b : begins (is terminals.Void) (x ++ (y ++ (z ++ (tok terminals.Semicolon s ∷ rest)))) ≡ false =
      not_begun starts_type terminals.Void refl (x ++ (y ++ (z ++ (tok terminals.Semicolon s ∷ rest)))) first in
      rw (
        append_assoc x (y ++ (z ++ (tok terminals.Semicolon s ∷ []))) rest,
        append_assoc y (z ++ (tok terminals.Semicolon s ∷ [])) rest,
        append_assoc z (tok terminals.Semicolon s ∷ []) rest,
        a,
        b,
      )
      (onto _ (f2.type' i (omega (arith, type_flat i)) (y ++ (z ++ (tok terminals.Semicolon s ∷ rest)))
      (behind_type (suc (suc (suc n))) three k f3 j (z ++ (tok terminals.Semicolon s ∷ rest))))
      (typed_reads t j (omega arith) l (omega arith) s rest _ refl))

  item_reads : {t : Syntax} {x : List Leaf} → Spells Item (one t) x → nesting t ≤ suc (suc (suc (suc n))) →
      (rest : List Leaf) → item_of one' two three (x ++ rest) ≡ Got t rest
  item_reads (grammar.item_declare i) d rest = declaration_reads i d rest
  item_reads (grammar.function {heads = heads} {x = x} i {r = r} {y = y} j m o {own = own} {ts = ts} {z = z} p c
      {b = b} {w = w} l) d rest =
      rw (
        append_assoc x (y ++ (tok terminals.Name m ∷ tok terminals.Open o ∷ (z ++ (tok terminals.Close c ∷ w))))
            rest,
        append_assoc y (tok terminals.Name m ∷ tok terminals.Open o ∷ (z ++ (tok terminals.Close c ∷ w)))
            rest,
        append_assoc z (tok terminals.Close c ∷ w) rest,
      )
      (begun_reads i (omega (arith, deepest_joined heads (more r (more (params_node own ts c) (more b none))))) j
      (omega (arith, deepest_joined heads (more r (more (params_node own ts c) (more b none))))) m o
      (z ++ (tok terminals.Close c ∷ (w ++ rest))) _ rest
      (function_reads heads r m o p (omega (
        arith,
        deepest_joined heads (more r (more (params_node own ts c) (more b none))),
      )) c l (omega (
        arith,
        deepest_joined heads (more r (more (params_node own ts c) (more b none))),
      )) rest))
  item_reads (grammar.prototype {heads = heads} {x = x} i {r = r} {y = y} j m o {own = own} {ts = ts} {z = z} p c s) d
      rest =
      rw (
        append_assoc x (y ++ (tok terminals.Name m ∷ tok terminals.Open o ∷
            (z ++ (tok terminals.Close c ∷ tok terminals.Semicolon s ∷ [])))) rest,
        append_assoc y (tok terminals.Name m ∷ tok terminals.Open o ∷
            (z ++ (tok terminals.Close c ∷ tok terminals.Semicolon s ∷ []))) rest,
        append_assoc z (tok terminals.Close c ∷ tok terminals.Semicolon s ∷ []) rest,
      )
      (begun_reads i (omega (arith, deepest_joined heads (more r (more (params_node own ts c) none)))) j
      (omega (arith, deepest_joined heads (more r (more (params_node own ts c) none)))) m o
      (z ++ (tok terminals.Close c ∷ tok terminals.Semicolon s ∷ rest)) _ rest
      (prototype_reads heads r m o p (omega (arith, deepest_joined heads (more r (more (params_node own ts c) none))))
      c s rest))

  each_item_reads : (a : List Spot) (ts : Forest) (x : List Leaf) → Spells (Just Item) (list a ts) x →
      deepest ts ≤ suc (suc (suc (suc n))) → (rest : List Leaf) → Unit {0} →
      each (item_of one' two three) (x ++ rest) ≡ Got (true, listing a ts) rest
  each_item_reads a ts x (grammar.just i) d rest u = onto _ (item_reads i (omega arith) rest) refl

  item_begins : (a : List Spot) (ts : Forest) (x : List Leaf) → Spells (Just Item) (list a ts) x →
      (rest : List Leaf) → begins any (x ++ rest) ≡ true
  item_begins a ts x (grammar.just i) rest = item_first i rest

  pub items_read : {a : List Spot} {ts : Forest} {x : List Leaf} → Spells (Many (Just Item)) (list a ts) x →
      deepest ts ≤ suc (suc (suc (suc n))) → all_of any (each (item_of one' two three)) (x ++ []) ≡
      Got (listing a ts) []
  items_read i d = many_read any (each (item_of one' two three)) (Just Item) (items_shrink one' two three g h k)
      (suc (suc (suc (suc n)))) (λ r. Unit {0}) each_item_reads item_begins (λ a ts x i r. tt) i d [] tt refl

-- a list of all that there is ends where the tokens end
module _ (q : Reader Syntax) (shrink : Shrinks any (each q)) where
  read_on : (l : Listing) (o : Out Listing) (b : Listing) (rest : List Leaf) →
      after o (λ m. done (appended l m)) ≡ Got b rest → (c : Listing) × (o ≡ Got c rest)
  read_on l (Got c last) b rest e = let q : last ≡ rest = cc in (c, ap (λ r. Got c r) q)
  read_on l (Wrong j) b rest e = absurd cc
  read_on l (Deep j) b rest e = absurd cc

  all_to_end : (n : ℕ) (ts : List Leaf) → length ts < n → (b : Listing) (rest : List Leaf) →
      all_of any (each q) ts ≡ Got b rest → rest ≡ []
  all_to_end zero ts h b rest e = absurd (omega arith)
  all_to_end (suc n) [] h b rest e = let s : all_of any (each q) [] ≡ Got (listing [] none) [] =
      all_stops any (each q) [] refl in cc
  all_to_end (suc n) (i ∷ ts) h b rest e =
      go (λ mid lt c f. all_to_end n mid (omega arith) c rest f) (q (i ∷ ts)) refl
      (sym (all_goes any (each q) shrink (i ∷ ts) refl) ∙ e)
    where
      go : ((mid : List Leaf) → length mid < length (i ∷ ts) → (c : Listing) → all_of any (each q) mid ≡ Got c rest →
          rest ≡ []) → (o : Out Syntax) → q (i ∷ ts) ≡ o →
          after {A = Bool × Listing} (after o (λ t. done (true, listing [] (more t none)))) (onward any (each q)) ≡
          Got b rest → rest ≡ []
      go again (Got t mid) f e =
          let step : each q (i ∷ ts) ≡ Got (true, listing [] (more t none)) mid = onto _ f refl in
          let more_ = read_on (listing [] (more t none)) (all_of any (each q) mid) b rest e in
          again mid (shrink (i ∷ ts) mid (true, listing [] (more t none)) step) more_.0 more_.1
      go again (Wrong j) f e = absurd cc
      go again (Deep j) f e = absurd cc

pub unit_reads : (n : ℕ) (t : Syntax) (x : List Leaf) → Spells Source (one t) x →
    nesting t ≤ suc (suc (suc (suc (suc n)))) → unit_of n x ≡ Got t []
unfolding unit_of
unit_reads n t x (grammar.unit {ts = ts} i) d =
    let items : all_of any (each (item_of (readers (suc n)) (readers (suc (suc n))) (readers (suc (suc (suc n))))))
    x ≡ Got (listing _ ts) [] =
    ap (all_of any (each (item_of (readers (suc n)) (readers (suc (suc n))) (readers (suc (suc (suc n)))))))
    (sym (append-nil x)) ∙ items_read n (readers (suc n)) (readers (suc (suc n))) (readers (suc (suc (suc n))))
    (all_good (suc n)) (all_good (suc (suc n))) (all_good (suc (suc (suc n)))) (all_full (suc n))
    (all_full (suc (suc n))) (all_full (suc (suc (suc n)))) i (omega arith) in
    onto (λ l. done (unit_node l.parts)) items refl

pub unit_ends : (n : ℕ) (ts rest : List Leaf) (t : Syntax) → unit_of n ts ≡ Got t rest → rest ≡ []
unfolding unit_of
unit_ends n ts rest t e =
    go (all_of any (each (item_of (readers (suc n)) (readers (suc (suc n))) (readers (suc (suc (suc n)))))) ts) refl e
  where
    go : (o : Out Listing) → all_of any
        (each (item_of (readers (suc n)) (readers (suc (suc n))) (readers (suc (suc (suc n)))))) ts ≡ o →
        after o (λ l. done (unit_node l.parts)) ≡ Got t rest → rest ≡ []
    go (Got l last) f e =
        let last_is : last ≡ rest = cc in
        all_to_end (item_of (readers (suc n)) (readers (suc (suc n))) (readers (suc (suc (suc n)))))
        (items_shrink (readers (suc n)) (readers (suc (suc n))) (readers (suc (suc (suc n)))) (all_good (suc n))
        (all_good (suc (suc n))) (all_good (suc (suc (suc n))))) (suc (length ts)) ts (omega arith) l rest (f ∙
        ap (λ r. Got l r) last_is)
    go (Wrong j) f e = absurd cc
    go (Deep j) f e = absurd cc
