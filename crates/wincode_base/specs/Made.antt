-- What is made of parts that may make nothing: numbers that are not 0, floats, spans of time.
use lib.Ieee.{Format}
use Rattle.std.specs.Duration.{as_nanos}
use Rattle.std.specs.Net.Addr.{ipv4_octets, ipv6_octets}
use Rattle.std.specs.Net.Socket.{v4_ip, v4_port, v6_ip, v6_port, v6_flowinfo, v6_scope_id}
use Rattle.std.specs.declared.net.ip_addr.IpAddr.{IpAddr}
use Rattle.std.specs.declared.net.ip_addr.IpAddr.TheVariants as ip
use Rattle.std.specs.declared.net.ipv4_addr.Ipv4Addr.{Ipv4Addr}
use Rattle.std.specs.declared.net.ipv6_addr.Ipv6Addr.{Ipv6Addr}
use Rattle.std.specs.declared.net.socket_addr.SocketAddr.{SocketAddr}
use Rattle.std.specs.declared.net.socket_addr.SocketAddr.TheVariants as socket
use Rattle.std.specs.declared.net.socket_addr.SocketAddrV4.{SocketAddrV4}
use Rattle.std.specs.declared.net.socket_addr.SocketAddrV6.{SocketAddrV6}
use Rattle.std.specs.Time.{system_time_nanos}
use Rattle.std.specs.declared.time.Duration.{Duration}
use Rattle.std.specs.declared.time.SystemTime.{SystemTime}
use Rattle.std.specs.Prelude.{◌≡◌, ◌⊎◌, ◌+◌, ◌-◌, ◌*◌, ◌^◌, min, ◌/◌, ◌%◌, ◌<◌, List, ℕ, Result, Ok, Err, codes, to_bits, from_bits}
use Rattle.wincode_base.specs.Grammar.{ReadGrammar, ReadRefusal, WriteGrammar}
use Rattle.wincode_base.specs.Outcomes.{Gives, SchemaReadRefused}
use Rattle.wincode_base.specs.Strings.{reference_meta}
use Rattle.wincode_base.specs.declared.error.ReadError.{ReadError}
use Rattle.wincode_base.specs.declared.error.ReadError.TheVariants as reading

-- Parts make one value at the most, where `made p q` says that the parts p make the value whose own parts are q, and `see` is
-- what contracts see of parts.
abbrev pub IsMadeOnce : {X V : Type 0} → (X → V) → (X → X → Type 0) → Type 0
IsMadeOnce {X} see made = (p q r s : X) → see p ≡ see r → made p q → made r s → see q ≡ see s

-- the parts of what is made of valid parts
abbrev pub IsMadeOf : {X V : Type 0} → (X → V) → (X → X → Type 0) → (V → Type 0) → V → Type 0
IsMadeOf {X} see made is_valid w = (p : X) × (q : X) × is_valid (see p) × made p q × (see q ≡ w)

-- these parts make nothing, and the error is `Custom` of the text
abbrev pub MakeNothing : {X V : Type 0} → (X → V) → (X → X → Type 0) → List ℕ → X → ReadError → Type 0
MakeNothing {X} see made text p (reading.Custom t) = (t.now ≡ text) × ((r q : X) → see r ≡ see p → made r q → ⊥)
MakeNothing see made text p _ = ⊥

-- it was refused: its parts, as their grammar says; or, once they were read, since they make nothing
abbrev pub MadeReadRefused : {X V : Type 0} → (X → V) → (X → X → Type 0) → List ℕ → ReadGrammar V → ReadRefusal
MadeReadRefused {X} see made text g old new e = SchemaReadRefused g old new e
    ⊎ ((p : X) × Gives g.reads old new (see p) × MakeNothing see made text p e)

-- Its encodings are those of parts that make it. It is written as its own parts, by `reference_write`.
abbrev pub made_read : {X V : Type 0} → (X → V) → (X → X → Type 0) → List ℕ → ReadGrammar V → ReadGrammar V
made_read {X} see made text g = record {
  reads = λ b w. (p : X) × (q : X) × g.reads b (see p) × made p q × (see q ≡ w);
  meta = reference_meta g.meta;
  prealloc = g.prealloc;
  borrow = g.borrow;
  takes_no_memory = g.takes_no_memory;
  refused = MadeReadRefused see made text g;
}

-- what is not `none` makes itself
abbrev pub IsNot : {V : Type 0} → V → V → V → Type 0
IsNot none v w = (w ≡ v) × (v ≡ none → ⊥)

-- The bits make a float, whose own bits are these: the same, but where they are those of a NaN, of which all are one
-- value.
abbrev pub AreBits : Format → ℕ → ℕ → Type 0
AreBits f v w = w ≡ to_bits f (from_bits f v)

-- the text of the error where a number is 0 that may not be
abbrev pub is_zero : List ℕ
is_zero = codes "zero"

-- the seconds and nanoseconds of so many nanoseconds
abbrev pub time_parts : ℕ → ℕ × ℕ
time_parts n = (n / 1_000_000_000, n % 1_000_000_000)

-- those of a span of time
abbrev pub duration_parts : Duration → ℕ × ℕ
duration_parts d = time_parts (as_nanos d)

-- Those since 1970 of a time that a clock may show: they are fewer than 2 ^ 63 seconds.
abbrev pub clock_parts : SystemTime → ℕ × ℕ
clock_parts t = time_parts (min (system_time_nanos t) (2 ^ 63 * 1_000_000_000 - 1))

-- Seconds and nanoseconds make a span of time, whose own nanoseconds are below a second: more carry over, and the seconds are
-- then below the limit.
abbrev pub AreTime : ℕ → ℕ × ℕ → ℕ × ℕ → Type 0
AreTime limit v w = (w ≡ time_parts (v.0 * 1_000_000_000 + v.1)) × (w.0 < limit)

-- the text of the error where a span of time has too many seconds
abbrev pub is_overflow : List ℕ
is_overflow = codes "overflow"

-- what makes itself
abbrev pub IsSame : {V : Type 0} → V → V → Type 0
IsSame v w = w ≡ v

-- the address of either kind
abbrev pub ip_parts : IpAddr → Result Ipv4Addr Ipv6Addr
ip_parts (ip.V4 a) = Ok a
ip_parts (ip.V6 a) = Err a

-- the octets of an address, and the port
abbrev pub socket_v4_parts : SocketAddrV4 → List ℕ × ℕ
socket_v4_parts a = (ipv4_octets (v4_ip a), v4_port a)

-- The same, which is what is written.
abbrev pub socket_v6_written : SocketAddrV6 → List ℕ × ℕ
socket_v6_written a = (ipv6_octets (v6_ip a), v6_port a)

-- The same, where what isn't written, the flow label and the scope, stands above the two bytes of the port.
abbrev pub socket_v6_parts : SocketAddrV6 → List ℕ × ℕ
socket_v6_parts a = (ipv6_octets (v6_ip a), v6_port a + 256 ^ 2 * (v6_flowinfo a + v6_scope_id a))

-- Written so, an address is within the limits of reading where it has no flow label and no scope, so that all of it is written.
abbrev pub unscoped_write : WriteGrammar (List ℕ × ℕ) → WriteGrammar (List ℕ × ℕ)
unscoped_write g = record g { fits = λ v. g.fits v × (v.1 < 256 ^ 2) }

-- the address of either kind, and the port
abbrev pub socket_parts : SocketAddr → Result SocketAddrV4 SocketAddrV6
socket_parts (socket.V4 a) = Ok a
socket_parts (socket.V6 a) = Err a
