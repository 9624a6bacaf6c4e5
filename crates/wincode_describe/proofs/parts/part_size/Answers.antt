use Rattle.std.proofs.Common.{◌≡◌, sym, ◌∙◌, ℕ, ◌-◌, ◌≤◌, length, length-append, arith}
use Rattle.std.specs.Int.{byte_len}
use Rattle.wincode_io.specs.NumberLaws.{length-le}
use Rattle.wincode_io.specs.Numbers.{le}
use Rattle.wincode_describe.specs.Parts.{width_of, std_size, part_bytes, Socket}
use Rattle.wincode_describe.specs.declared.described.StdType.{StdType}
use Rattle.wincode_describe.specs.declared.described.StdType.TheVariants.{F32, F64, Duration, SystemTime, Ipv4Addr, Ipv6Addr, SocketAddrV4, SocketAddrV6}
use Rattle.wincode_describe.proofs.parts.part_size.Goals as goal

-- no such value has fewer bytes than a port
past_port : (k : StdType) → 2 ≤ std_size k
past_port F32 = omega arith
past_port F64 = omega arith
past_port Duration = omega arith
past_port SystemTime = omega arith
past_port Ipv4Addr = omega arith
past_port Ipv6Addr = omega arith
past_port SocketAddrV4 = omega arith
past_port SocketAddrV6 = omega arith

-- a socket's host and its port
socket_size : (k : StdType) (h p : ℕ) → std_size k ≡ length (part_bytes (Socket k h p))
socket_size k h p =
    let both = length-append (le (std_size k - 2) h) (le 2 p) in
    let port = length-le 2 p in
    let host = length-le (std_size k - 2) h in
    let more = past_port k in
    omega (arith, both, port, host, more)

pub returns-in-Natural : goal.returns-in-Natural
returns-in-Natural c = rw c.in-Natural.is (c.integer_size.ensures ∙ sym (length-le (byte_len (width_of c.in-Natural.integer)) _))

pub returns-in-Signed : goal.returns-in-Signed
returns-in-Signed c = rw c.in-Signed.is (c.integer_size-in-Signed.ensures ∙ sym (length-le (byte_len (width_of c.in-Signed.integer)) _))

pub returns-in-Tag : goal.returns-in-Tag
returns-in-Tag c = rw c.in-Tag.is (sym (length-le c.in-Tag.size c.in-Tag.tag))

pub returns-in-Std : goal.returns-in-Std
returns-in-Std c = rw c.in-Std.is (c.std_size.ensures ∙ sym (length-le (std_size c.in-Std.kind) c.in-Std.number))

pub returns-in-Socket : goal.returns-in-Socket
returns-in-Socket c = rw c.in-Socket.is (c.std_size-in-Socket.ensures ∙ socket_size c.in-Socket.kind c.in-Socket.host c.in-Socket.port)
