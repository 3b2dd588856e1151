-- A list of words has at most one line and one status.
use Rattle.intcalc_core.proofs.Common.{◌≡◌, ℕ, List, Option, Some, None, map, ap, arith, Kind, Call, operands_of, word_of_kind, word_of_call, AskFor, IsRequest, IsReply, IsLine, text_of, status_of, spelled_number}
use Rattle.intcalc_core.specs.Only.{IsOnly}
use Rattle.intcalc_core.proofs.WordsLemmas.{map_Some_same}
use Rattle.intcalc_core.proofs.OnlyOutcome.{only_outcome}

-- no two kinds have one word
same_kind : (k l : Kind) → word_of_kind k ≡ word_of_kind l → k ≡ l
same_kind k l e = grind arith

-- no two calls have one word and the same operands
same_call : (c d : Call) → word_of_call c ≡ word_of_call d → operands_of c ≡ operands_of d → c ≡ d
same_call c d e f = grind arith

-- words ask for at most one kind and call
only_asked : {words : List (List ℕ)} {k l : Kind} {c d : Call} → AskFor words k c → AskFor words l d → (k ≡ l) × (c ≡ d)
only_asked {words} {k} {l} {c} {d} a b = grind (arith, word_of_kind, word_of_call, map, spelled_number, operands_of, same_kind, same_call, map_Some_same)

pub only_request : (words : List (List ℕ)) (p q : Option (Kind × Call)) → IsRequest words p → IsRequest words q → p ≡ q
only_request words p q a b = grind (arith, only_asked)

only_reply : (request : Option (Kind × Call)) (s t : List ℕ) (m n : ℕ) → IsReply request s m → IsReply request t n → (s ≡ t) × (m ≡ n)
only_reply None s t m n a b = (cc, cc)
only_reply (Some asked) s t m n a b =
    let e : a.0 ≡ b.0 = only_outcome asked.0 asked.1 b.0 b.1 a.0 a.1 in
    let text = ap text_of e in
    let status = ap status_of e in
    (cc, cc)

pub only_line : {words : List (List ℕ)} {line : List ℕ} {status : ℕ} → IsLine words line status
    → IsOnly (λ (other, n). IsLine words other n) (line, status)
only_line {words} {line} {status} a (other, n) b = grind (arith, only_request, only_reply)
