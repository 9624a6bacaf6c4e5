use Rattle.std.proofs.Common.{rules, ◌≡◌, ◌∙◌, sym, ap, subst, ◌∷◌, [], ℕ, List, length, arith}
use Rattle.std.proofs.lemmas.List.{map-id}
use Rattle.std.specs.Int.{w32, w128}
use Rattle.wincode_io.specs.NumberLaws.{from_le_bytes-worth}
use Rattle.wincode_io.specs.Numbers.{worth}
use Rattle.wincode_base.specs.Outcomes.{Gives}
use Rattle.wincode_describe.specs.Parts.{Std}
use Rattle.wincode_describe.specs.declared.described.StdType.TheVariants.{Ipv4Addr, Ipv6Addr}
use Rattle.wincode_describe.specs.declared.shown.Shown.TheVariants as shown
use Rattle.wincode_describe.proofs.Gets.{Octets, octets_refused, octets_got}
use Rattle.wincode_describe.proofs.leaves.get_std.Goals as goal

pub returns-in-Duration : goal.returns-in-Duration
returns-in-Duration g c = rw c.in-Duration.is c.get_time.ensures

pub returns-in-SystemTime : goal.returns-in-SystemTime
returns-in-SystemTime g c = rw c.in-SystemTime.is c.get_time-in-SystemTime.ensures

pub returns-in_err-octets-in-Ipv4Addr : goal.returns-in_err-octets-in-Ipv4Addr
returns-in_err-octets-in-Ipv4Addr g c =
    let o = c.in_err-octets-in-Ipv4Addr.ensures in
    rw c.in-Ipv4Addr.is (octets_refused Ipv4Addr 4 _ _ c.from_residual-in_err-octets-in-Ipv4Addr.ensures o.refused)

pub returns-in_ok-octets-in-Ipv4Addr : goal.returns-in_ok-octets-in-Ipv4Addr
returns-in_ok-octets-in-Ipv4Addr g c =
    let v = c.in_ok-octets-in-Ipv4Addr.octets in
    let n = c.from_le_bytes-number.result in
    let P : List ℕ → Type 0 = λ xs. Gives (Octets 4).reads (g.R.Reader.state c.args.reader.now) (g.R.Reader.state c.get-in-Ipv4Addr.new.reader) xs in
    let size : length v ≡ 4 = search rules in
    let same : worth v ≡ n = sym (c.from_le_bytes-number.ensures ∙ from_le_bytes-worth w32 v (omega arith) size) in
    rw c.in-Ipv4Addr.is (octets_got Ipv4Addr 4 v (shown.Std Ipv4Addr n) (ap (λ t. Std Ipv4Addr t ∷ []) same)
    (subst P (map-id v) c.in_ok-octets-in-Ipv4Addr.ensures.ok))

pub returns-in_err-octets-in-Ipv6Addr : goal.returns-in_err-octets-in-Ipv6Addr
returns-in_err-octets-in-Ipv6Addr g c =
    let o = c.in_err-octets-in-Ipv6Addr.ensures in
    rw c.in-Ipv6Addr.is (octets_refused Ipv6Addr 16 _ _ c.from_residual-in_err-octets-in-Ipv6Addr.ensures o.refused)

pub returns-in_ok-octets-in-Ipv6Addr : goal.returns-in_ok-octets-in-Ipv6Addr
returns-in_ok-octets-in-Ipv6Addr g c =
    let v = c.in_ok-octets-in-Ipv6Addr.octets in
    let n = c.from_le_bytes-number-in-Ipv6Addr.result in
    let P : List ℕ → Type 0 = λ xs. Gives (Octets 16).reads (g.R.Reader.state c.args.reader.now) (g.R.Reader.state c.get-in-Ipv6Addr.new.reader) xs in
    let size : length v ≡ 16 = search rules in
    let same : worth v ≡ n = sym (c.from_le_bytes-number-in-Ipv6Addr.ensures ∙ from_le_bytes-worth w128 v (omega arith) size) in
    rw c.in-Ipv6Addr.is (octets_got Ipv6Addr 16 v (shown.Std Ipv6Addr n) (ap (λ t. Std Ipv6Addr t ∷ []) same)
    (subst P (map-id v) c.in_ok-octets-in-Ipv6Addr.ensures.ok))

pub returns-in-SocketAddrV4 : goal.returns-in-SocketAddrV4
returns-in-SocketAddrV4 g c = rw c.in-SocketAddrV4.is c.get_socket_v4.ensures

pub returns-in-SocketAddrV6 : goal.returns-in-SocketAddrV6
returns-in-SocketAddrV6 g c = rw c.in-SocketAddrV6.is c.get_socket_v6.ensures
