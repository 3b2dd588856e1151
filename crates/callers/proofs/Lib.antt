mod Common
mod AffineCiphers
