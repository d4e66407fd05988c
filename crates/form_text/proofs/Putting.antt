-- Calls that put texts into a sink, one behind the other.
use Rattle.std.proofs.lemmas.Bool.{false≢true}
use Rattle.std.proofs.lemmas.List.{take_all}
use Rattle.std.proofs.Common.{◌≡◌, ℕ, ◌+◌, ◌<◌, ◌≤◌, List, [], ◌++◌, length, take, get_or, Option, Result, Ok, Err, refl, ◌∙◌, append_assoc, arith}
use Rattle.std.proofs.KnownBytes.{Appends-nil}
use Rattle.std.specs.List.{flat_map}
use Rattle.std.specs.Result.{IsErr}
use Rattle.il_edge.specs.Faults.{HasCause}
use Rattle.form_text.specs.Lists.{numbered}
use Rattle.form_text.specs.Pieces.{Puts}
use Rattle.form_text.proofs.Written.{prefix_more, writes_behind, prefix_among, pieces_next, prefix_numbered, numbered_next}

-- No call puts nothing.
pub puts_none : {K T E : Type 0} {held : K → Option (List ℕ)} {settled : K → Option ℕ} {faults : K → ℕ} (x : T) (k : K) → Puts {T = T} {E = E} held settled faults k k (Ok x) []
puts_none {held = held} x k = record { text = Appends-nil (held k); told = refl; settled = refl; cause = record { later = omega arith; failed = tt } }

-- The cause of the second of two calls is that of both.
later_cause : {T U E F : Type 0} {x : T} (a b c : ℕ) (r : Result U F) → HasCause {E = E} a b (Ok x) → HasCause b c r → HasCause a c r
later_cause a b c (Ok y) first next = record { later = omega (arith, first.later, next.later); failed = tt }
later_cause a b c (Err f) first next = record { later = omega (arith, first.later, next.later); failed = omega (arith, first.later, next.failed) }

-- A call behind one that succeeded puts the texts of both.
pub puts_then : {K T U E F : Type 0} {held : K → Option (List ℕ)} {settled : K → Option ℕ} {faults : K → ℕ} {a b c : K} {x : T} {r : Result U F} {s t : List ℕ}
    → Puts {E = E} held settled faults a b (Ok x) s → Puts held settled faults b c r t → Puts held settled faults a c r (s ++ t)
puts_then {held = held} {faults = faults} {a = a} {b = b} {c = c} {r = r} {s = s} {t = t} first next = record {
  text = writes_behind (held a) (held b) (held c) r s t first.text next.text;
  told = next.told ∙ first.told;
  settled = next.settled ∙ first.settled;
  cause = later_cause (faults a) (faults b) (faults c) r first.cause next.cause;
}

-- A failure that is handed on puts a prefix of any longer text.
pub puts_failed : {K T U E F : Type 0} {held : K → Option (List ℕ)} {settled : K → Option ℕ} {faults : K → ℕ} {a b : K} {e : E} {r : Result U F} {s : List ℕ}
    (t : List ℕ) → IsErr r → Puts {T = T} held settled faults a b (Err e) s → Puts held settled faults a b r (s ++ t)
puts_failed {r = Ok x} t is failed = absurd (false≢true is)
puts_failed {held = held} {a = a} {b = b} {r = Err f} {s = s} t is failed = record {
  text = prefix_more (held a) (held b) s t failed.text;
  told = failed.told;
  settled = failed.settled;
  cause = record { later = failed.cause.later; failed = failed.cause.failed };
}

-- What was put by a call that failed is a prefix of any longer text.
pub puts_short : {K T E : Type 0} {held : K → Option (List ℕ)} {settled : K → Option ℕ} {faults : K → ℕ} {a b : K} {e : E} {s : List ℕ} (t : List ℕ)
    → Puts {T = T} held settled faults a b (Err e) s → Puts {T = T} held settled faults a b (Err e) (s ++ t)
puts_short {held = held} {a = a} {b = b} {s = s} t failed = record { text = prefix_more (held a) (held b) s t failed.text; told = failed.told; settled = failed.settled; cause = failed.cause }

-- A call behind one that succeeded, where the second text is made of two.
pub puts_along : {K T U E F : Type 0} {held : K → Option (List ℕ)} {settled : K → Option ℕ} {faults : K → ℕ} {a b c : K} {x : T} {r : Result U F} {s : List ℕ}
    (t u : List ℕ) → Puts {E = E} held settled faults a b (Ok x) s → Puts held settled faults b c r (t ++ u) → Puts held settled faults a c r (s ++ t ++ u)
puts_along {s = s} t u first next = rw (append_assoc s t u) (puts_then first next)

-- The same text in other words.
pub puts_as : {K T E : Type 0} {held : K → Option (List ℕ)} {settled : K → Option ℕ} {faults : K → ℕ} {a b : K} {r : Result T E} {s t : List ℕ}
    → s ≡ t → Puts held settled faults a b r s → Puts held settled faults a b r t
puts_as same put = rw (← same) put

-- Numbered texts up to the last are all of them.
pub puts_all : {X K T E : Type 0} {held : K → Option (List ℕ)} {settled : K → Option ℕ} {faults : K → ℕ} {a b : K} {r : Result T E} (f : ℕ → X → List ℕ) (k : ℕ)
    (xs : List X) (i : ℕ) → length xs ≤ i → Puts held settled faults a b r (numbered f k (take i xs)) → Puts held settled faults a b r (numbered f k xs)
puts_all f k xs i h put = rw take_all at put

-- One more of numbered texts behind those up to it.
pub puts_next : {X K T U E F : Type 0} {held : K → Option (List ℕ)} {settled : K → Option ℕ} {faults : K → ℕ} {a b c : K} {x : T} {y : U} (f : ℕ → X → List ℕ) (k : ℕ)
    (xs : List X) (i : ℕ) (d : X) (n : ℕ) → n ≡ k + i → i < length xs → Puts {E = E} held settled faults a b (Ok x) (numbered f k (take i xs))
    → Puts {E = F} held settled faults b c (Ok y) (f n (get_or xs i d)) → Puts {E = F} held settled faults a c (Ok y) (numbered f k (take (i + 1) xs))
puts_next f k xs i d n e h first next = rw (numbered_next f k xs i d n e h) (puts_then first next)

-- A failure at the next of numbered texts puts a prefix of them all.
pub puts_stopped : {X K T U E F : Type 0} {held : K → Option (List ℕ)} {settled : K → Option ℕ} {faults : K → ℕ} {a b c : K} {x : T} {e : F} (f : ℕ → X → List ℕ) (k : ℕ)
    (xs : List X) (i : ℕ) (d : X) (n : ℕ) → n ≡ k + i → i < length xs → Puts {E = E} held settled faults a b (Ok x) (numbered f k (take i xs))
    → Puts {T = U} held settled faults b c (Err e) (f n (get_or xs i d)) → Puts {T = U} held settled faults a c (Err e) (numbered f k xs)
puts_stopped {held = held} {faults = faults} {a = a} {b = b} {c = c} {e = e} f k xs i d n m h first next = record {
  text = prefix_numbered f k xs i d n (held a) (held b) (held c) m h first.text next.text;
  told = next.told ∙ first.told;
  settled = next.settled ∙ first.settled;
  cause = later_cause (faults a) (faults b) (faults c) (Err e) first.cause next.cause;
}

-- One more of texts behind those up to it.
pub puts_more : {X K T U E F : Type 0} {held : K → Option (List ℕ)} {settled : K → Option ℕ} {faults : K → ℕ} {a b c : K} {x : T} {y : U} (f : X → List ℕ)
    (xs : List X) (i : ℕ) (d : X) → i < length xs → Puts {E = E} held settled faults a b (Ok x) (flat_map f (take i xs))
    → Puts {E = F} held settled faults b c (Ok y) (f (get_or xs i d)) → Puts {E = F} held settled faults a c (Ok y) (flat_map f (take (i + 1) xs))
puts_more f xs i d h first next = rw (pieces_next f xs i d h) (puts_then first next)

-- A failure at the next of texts puts a prefix of them all.
pub puts_broken : {X K T U E F : Type 0} {held : K → Option (List ℕ)} {settled : K → Option ℕ} {faults : K → ℕ} {a b c : K} {x : T} {e : F} (f : X → List ℕ)
    (xs : List X) (i : ℕ) (d : X) → i < length xs → Puts {E = E} held settled faults a b (Ok x) (flat_map f (take i xs))
    → Puts {T = U} held settled faults b c (Err e) (f (get_or xs i d)) → Puts {T = U} held settled faults a c (Err e) (flat_map f xs)
puts_broken {held = held} {faults = faults} {a = a} {b = b} {c = c} {e = e} f xs i d h first next = record {
  text = prefix_among f xs i d (held a) (held b) (held c) h first.text next.text;
  told = next.told ∙ first.told;
  settled = next.settled ∙ first.settled;
  cause = later_cause (faults a) (faults b) (faults c) (Err e) first.cause next.cause;
}
