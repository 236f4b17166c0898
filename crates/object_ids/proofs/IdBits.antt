-- The bits of an id, and their bytes.
use Rattle.std.proofs.Common.{◌≡◌, ℕ, zero, suc, ◌+◌, ◌*◌, ◌^◌, ◌/◌, ◌%◌, ◌<◌, get_or, Some, inl, refl, sym, ap, ◌∙◌, arith, length}
use Rattle.std.proofs.Math.Nat.{mod-eq_of_lt}
use Rattle.std.specs.Int.{bytes_high_first, from_be_bytes, to_be_bytes, w128}
use Rattle.uuid.specs.Text.{parsed}
use Rattle.uuid.proofs.RoundTrips.{parses_hyphenated}
use Rattle.object_ids.specs.Ids.{InRange, bits_of, id_in, uuid_of}
use Rattle.object_ids.specs.IdValues.{Id}
use Rattle.object_ids.specs.declared.ids.Kind.{Kind}
use Rattle.object_ids.proofs.NumberOrders.{byte_small, split_byte}

-- sixteen parts, each of which is what a greater remainder has more than a smaller one
telescope : (f0 f1 f2 f3 f4 f5 f6 f7 f8 f9 fa fb fc fd fe ff r0 r1 r2 r3 r4 r5 r6 r7 r8 r9 ra rb rc rd re rf n : ℕ)
    → r0 ≡ 0 → r1 ≡ f0 + r0 → r2 ≡ f1 + r1 → r3 ≡ f2 + r2 → r4 ≡ f3 + r3 → r5 ≡ f4 + r4 → r6 ≡ f5 + r5 → r7 ≡ f6 + r6 → r8 ≡ f7 + r7
    → r9 ≡ f8 + r8 → ra ≡ f9 + r9 → rb ≡ fa + ra → rc ≡ fb + rb → rd ≡ fc + rc → re ≡ fd + rd → rf ≡ fe + re → n ≡ ff + rf
    → ff + fe + fd + fc + fb + fa + f9 + f8 + f7 + f6 + f5 + f4 + f3 + f2 + f1 + f0 ≡ n
telescope f0 f1 f2 f3 f4 f5 f6 f7 f8 f9 fa fb fc fd fe ff r0 r1 r2 r3 r4 r5 r6 r7 r8 r9 ra rb rc rd re rf n e0 e1 e2 e3 e4 e5 e6 e7 e8 e9 ea eb ec ed ee ef e = omega arith

-- a number of 128 bits is what its bytes make
pub from_to_bytes : (n : ℕ) → n < 256 ^ 16 → from_be_bytes w128 (to_be_bytes w128 n) ≡ n
from_to_bytes n small = telescope _ _ _ _ _ _ _ _ _ _ _ _ _ _ _ _ (n % 256 ^ 0) (n % 256 ^ 1) (n % 256 ^ 2) (n % 256 ^ 3) (n % 256 ^ 4) (n % 256 ^ 5) (n % 256 ^ 6) (n % 256 ^ 7) (n % 256 ^ 8) (n % 256 ^ 9) (n % 256 ^ 10) (n % 256 ^ 11) (n % 256 ^ 12) (n % 256 ^ 13) (n % 256 ^ 14) (n % 256 ^ 15) n
    (omega arith) (lowest n) (split_byte 1 n) (split_byte 2 n) (split_byte 3 n) (split_byte 4 n) (split_byte 5 n) (split_byte 6 n) (split_byte 7 n) (split_byte 8 n) (split_byte 9 n) (split_byte 10 n) (split_byte 11 n) (split_byte 12 n) (split_byte 13 n) (split_byte 14 n)
    (sym (mod-eq_of_lt small) ∙ split_byte 15 n)
  where
    lowest : (n : ℕ) → n % 256 ^ 1 ≡ n % 256 + n % 256 ^ 0
    lowest n = omega arith

same_domain : (d r s : ℕ) → r < 2 ^ 22 → s < 2 ^ 40 → (d * 2 ^ 80 + 8 * 2 ^ 76 + 2 * 2 ^ 62 + r * 2 ^ 40 + s) / 2 ^ 80 ≡ d
same_domain d r s hr hs = omega arith

same_run : (d r s : ℕ) → r < 2 ^ 22 → s < 2 ^ 40 → (d * 2 ^ 80 + 8 * 2 ^ 76 + 2 * 2 ^ 62 + r * 2 ^ 40 + s) / 2 ^ 40 % 2 ^ 22 ≡ r
same_run d r s hr hs = omega arith

same_serial : (d r s : ℕ) → r < 2 ^ 22 → s < 2 ^ 40 → (d * 2 ^ 80 + 8 * 2 ^ 76 + 2 * 2 ^ 62 + r * 2 ^ 40 + s) % 2 ^ 40 ≡ s
same_serial d r s hr hs = omega arith

-- an id stands in its bits
pub id_in-bits : (id : Id) → InRange id → id_in id.kind (bits_of id) ≡ id
id_in-bits id h =
    let domain = same_domain id.domain id.run id.serial h.run h.serial in
    let run = same_run id.domain id.run id.serial h.run h.serial in
    let serial = same_serial id.domain id.run id.serial h.run h.serial in
    λ i. record { kind = id.kind; domain = domain i; run = run i; serial = serial i }

-- the bits fit 16 bytes
pub small_bits : (d r s : ℕ) → d < 2 ^ 48 → r < 2 ^ 22 → s < 2 ^ 40 → d * 2 ^ 80 + 8 * 2 ^ 76 + 2 * 2 ^ 62 + r * 2 ^ 40 + s < 256 ^ 16
small_bits d r s hd hr hs = omega arith

-- the id in the bytes of an id's UUID has that UUID, whatever its kind
pub uuid_of-read : (k : Kind) (id : Id) → InRange id → uuid_of (id_in k (from_be_bytes w128 (to_be_bytes w128 (bits_of id)))) ≡ uuid_of id
uuid_of-read k id h =
    ap (λ (n : ℕ). uuid_of (id_in k n)) (from_to_bytes (bits_of id) (small_bits id.domain id.run id.serial h.domain h.run h.serial))
    ∙ ap uuid_of (id_in-bits id h)

small_bytes : (k n i d : ℕ) → i < length (bytes_high_first k n) → get_or (bytes_high_first k n) i d < 256
small_bytes zero n i d h = absurd (omega arith)
small_bytes (suc k) n zero d h = byte_small k n
small_bytes (suc k) n (suc i) d h = small_bytes k n i d (omega arith)

-- what the UUID of an id parses to
pub parses_uuid : (id : Id) → Some (to_be_bytes w128 (bits_of id)) ≡ parsed (uuid_of id)
parses_uuid id = parses_hyphenated 97 (to_be_bytes w128 (bits_of id)) (inl refl) refl (small_bytes 16 (bits_of id))
